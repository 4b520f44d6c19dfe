use Rattle.std.proofs.Common.{◌≡◌, ◌∙◌, sym, false}
use Rattle.jq_ast.specs.Named.{named}
use Rattle.jq_inputs.specs.private.Walk.{is_inputs_call}
use Rattle.jq_inputs.proofs.Levels.{call-arguments}
use Rattle.jq_inputs.proofs.plans.is_inputs_call.Goals as goal

pub returns-else-is_empty : goal.returns-else-is_empty
returns-else-is_empty c =
    let e : is_inputs_call c.args.hidden (named c.args.tree.now) ≡ false = rw c.in-Call.is (call-arguments c.args.hidden c.in-Call.name c.in-Call.arguments (sym (rw c.as_slice.ensures.value at c.is_empty.ensures) ∙ c.if-is_empty.false)) in
    c.if-is_empty.false ∙ sym e
