use Rattle.std.proofs.Common.{refl, sym, subst, rules, w64, SFits}
use Rattle.std.proofs.lemmas.Int.{to_z-of_z}
use Rattle.std.proofs.lemmas.Result.{IfOk-weaker}
use Rattle.jq_ast.specs.Named.{named}
use Rattle.jq_state.specs.Inputs.{inputs_of}
use Rattle.jq_state.specs.Items.{item_of}
use Rattle.jq_state.specs.declared.environments.Nodes.{Nodes}
use Rattle.jq_engine.specs.private.Leading.{at_filter}
use Rattle.jq_engine.specs.private.Ranges.{RangesOver}
use Rattle.jq_engine.specs.private.Tails.{Arrives}
use Rattle.jq_engine.proofs.RangesAtOnce.{enters_at, range_begins}
use Rattle.jq_engine.proofs.ranges.enter_range.Goals as goal

pub returns-in-Some : goal.returns-in-Some
returns-in-Some c =
    let inputs = inputs_of c.args.inputs.now in
    let s = c.args.state.now in
    let t = named c.args.tree.now in
    let p = c.args.scope in
    let x = item_of c.args.input in
    let n = c.in-Some.start in
    let m = c.in-Some.end in
    let over : RangesOver s.nodes t p x n m = subst (λ (ns : Nodes). RangesOver ns t p x n m) c.nodes.ensures (rw c.in-Some.is at c.in_ok-start.ensures) in
    let n_fits : SFits w64 n = search rules in
    let m_fits : SFits w64 m = search rules in
    let given = simp (to_z-of_z, n_fits, m_fits) at c.give_numbers.ensures in
    IfOk-weaker c.give_numbers.result _ _ (λ next h. (h.0, subst (Arrives (at_filter inputs s t p x)) (sym (h.1 inputs)) (range_begins inputs s t p x n m over))) given

pub returns : goal.returns
returns c =
    let inputs = inputs_of c.args.inputs.now in
    enters_at inputs (at_filter inputs c.args.state.now (named c.args.tree.now) c.args.scope (item_of c.args.input)) _ c.enter.new.state c.enter.result refl c.enter.ensures
