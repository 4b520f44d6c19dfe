use Rattle.std.proofs.Common.{rules, ◌≡◌, map, refl, false, true}
use Rattle.jq_tree.specs.Token as token
use Rattle.jq_builders.specs.Views.{parameter_of}
use Rattle.jq_parser.specs.laws.Combinators.{first, tail, is_symbol}
use Rattle.jq_parser.specs.private.Parsing.{ahead}
use Rattle.jq_parser.proofs.Loops.{reads_start, reads_more, reads_last, reads_stop, shorter}
use Rattle.jq_parser.proofs.parser.Parser.parameter_list.Goals as goal

pub loop-parameter-init : goal.loop-parameter-init
loop-parameter-init c = (refl, rw c.new-parameters.ensures.items (reads_start (ahead c.args.self.now)))

pub returns-in-Err-clause-value : goal.returns-in-Err-clause-value
returns-in-Err-clause-value c = λ s. reads_stop _ _ _ c.loop-parameter.invariant.1 (c.in-Err.ensures.value s)

pub returns-then-not-take-clause-value : goal.returns-then-not-take-clause-value
returns-then-not-take-clause-value c =
    let s : is_symbol token.semicolon (first (ahead c.parameter.new.self)) ≡ false = search (rules, c.take.ensures.found, c.if-not-take.true) in
    let r = reads_last (ahead c.args.self.now) (map parameter_of c.loop-parameter.parameters.items) (ahead c.loop-parameter.self) (parameter_of c.in-Ok.parameter) (ahead c.parameter.new.self) c.loop-parameter.invariant.1 c.in-Ok.ensures.value s in
    search (rules, r)

pub loop-parameter-smaller : goal.loop-parameter-smaller
loop-parameter-smaller c =
    let h = shorter (ahead c.loop-parameter.self) (parameter_of c.in-Ok.parameter) (ahead c.parameter.new.self) c.in-Ok.ensures.value in
    let t : ahead c.take.new.self ≡ tail (ahead c.parameter.new.self) = search (rules, c.take.ensures.ahead, c.if-not-take.false) in
    rw t h

pub loop-parameter-preserved : goal.loop-parameter-preserved
loop-parameter-preserved c =
    let s : is_symbol token.semicolon (first (ahead c.parameter.new.self)) ≡ true = search (rules, c.take.ensures.found, c.if-not-take.false) in
    let t : ahead c.take.new.self ≡ tail (ahead c.parameter.new.self) = search (rules, c.take.ensures.ahead, c.if-not-take.false) in
    let r = reads_more (ahead c.args.self.now) (map parameter_of c.loop-parameter.parameters.items) (ahead c.loop-parameter.self) (parameter_of c.in-Ok.parameter) (ahead c.parameter.new.self) c.loop-parameter.invariant.1 c.in-Ok.ensures.value s in
    (search (rules, c.loop-parameter.invariant.0), rw (t, c.in_ok-parameters.ensures) r)
