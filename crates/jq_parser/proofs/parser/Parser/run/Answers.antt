use Rattle.std.proofs.Common.{rules, ◌≡◌, ◌∙◌, ap, refl}
use Rattle.jq_tree.specs.Tree as tree
use Rattle.jq_tree.specs.Grammar.{Main}
use Rattle.jq_builders.specs.Views.{tree_in}
use Rattle.jq_parser.specs.laws.Machine.{stop}
use Rattle.jq_parser.specs.private.Parsing.{next_of, ahead, waiting, turned}
use Rattle.jq_parser.specs.declared.faults.ParseFault.TheVariants.{Syntax}
use Rattle.jq_parser.proofs.Whole.{begun, leads_main, leads_next, whole_tree, no_tree, falls, done_is}
use Rattle.jq_parser.proofs.parser.Parser.run.Goals as goal

pub loop-mode-init : goal.loop-mode-init
loop-mode-init c = leads_main (ahead c.args.self.now) (waiting c.args.self.now) (ahead c.args.self.now) c.requires refl

pub returns-in-Done-clause-tree : goal.returns-in-Done-clause-tree
returns-in-Done-clause-tree c =
    whole_tree (ahead c.args.self.now) (tree_in c.in-Done.t) (next_of c.loop-mode.mode (waiting c.loop-mode.self) (ahead c.loop-mode.self)) c.loop-mode.invariant
    (ap (λ d. next_of d (waiting c.loop-mode.self) (ahead c.loop-mode.self)) c.in-Done.is ∙ done_is c.in-Done.t (waiting c.loop-mode.self) (ahead c.loop-mode.self))

pub returns-in_err-mode-in_default : goal.returns-in_err-mode-in_default
returns-in_err-mode-in_default c =
    let x = next_of c.loop-mode.mode (waiting c.loop-mode.self) (ahead c.loop-mode.self) in
    let s : c.in_err-mode-in_default.field-0.0 ≡ Syntax → turned x ≡ stop = search (rules, c.in_err-mode-in_default.ensures) in
    let h : c.in_err-mode-in_default.field-0.0 ≡ Syntax → (t : tree.Tree) → ¬ Main (ahead c.args.self.now) t = λ e. no_tree (ahead c.args.self.now) x c.loop-mode.invariant (s e) in
    record { tree = search rules; syntax = search (rules, h) }

pub loop-mode-smaller : goal.loop-mode-smaller
loop-mode-smaller c =
    let e : next_of c.in_ok-mode-in_default.mode (waiting c.turn.new.self) (ahead c.turn.new.self) ≡ turned (next_of c.loop-mode.mode (waiting c.loop-mode.self) (ahead c.loop-mode.self)) = search (rules, c.in_ok-mode-in_default.ensures) in
    falls c.loop-mode.mode (waiting c.loop-mode.self) (ahead c.loop-mode.self) (next_of c.in_ok-mode-in_default.mode (waiting c.turn.new.self) (ahead c.turn.new.self)) c.in_default.not-Done e

pub loop-mode-preserved : goal.loop-mode-preserved
loop-mode-preserved c =
    let e : next_of c.in_ok-mode-in_default.mode (waiting c.turn.new.self) (ahead c.turn.new.self) ≡ turned (next_of c.loop-mode.mode (waiting c.loop-mode.self) (ahead c.loop-mode.self)) = search (rules, c.in_ok-mode-in_default.ensures) in
    leads_next (begun (ahead c.args.self.now)) (next_of c.loop-mode.mode (waiting c.loop-mode.self) (ahead c.loop-mode.self)) (next_of c.in_ok-mode-in_default.mode (waiting c.turn.new.self) (ahead c.turn.new.self)) c.loop-mode.invariant e
