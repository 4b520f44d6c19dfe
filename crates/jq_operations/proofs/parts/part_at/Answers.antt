use Rattle.std.proofs.Common.{◌∙◌, ap}
use Rattle.jv_data.specs.View.{view}
use Rattle.jq_meaning.specs.Continuations.{on_target}
use Rattle.jq_meaning.specs.Runs.{one}
use Rattle.jq_state.specs.Items.{keys_of}
use Rattle.jq_operations.proofs.Items.{raised_as, step_found, step_refused}
use Rattle.jq_operations.proofs.parts.part_at.Goals as goal

pub returns-in-Ok : goal.returns-in-Ok
unfolding on_target
returns-in-Ok c =
    let x = c.args.item in
    ap one c.in_ok-located-in-Ok.ensures ∙ step_found c.args.guarded (view x.value) (keys_of x.path) (view c.args.key.now) (view c.in-Ok.part) c.in-Ok.ensures

pub returns-in-Err-Raised : goal.returns-in-Err-Raised
unfolding on_target
returns-in-Err-Raised c =
    let x = c.args.item in
    (rw c.in-Err-Raised.field-0-is at c.refused.ensures) ∙ step_refused c.args.guarded (view x.value) (keys_of x.path) (view c.args.key.now) (view c.in-Err-Raised.error) (raised_as c.in-Err-Raised.field-0 c.in-Err-Raised.error _ c.in-Err-Raised.field-0-is c.in-Err-Raised.ensures)
