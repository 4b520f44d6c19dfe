use Rattle.std.proofs.Common.{Some, ap, subst, ◌≤◌}
use Rattle.std.proofs.Math.Logic.{∥∥₁_map}
use Rattle.std.proofs.lemmas.Bool.{leb-true}
use Rattle.jq_state.specs.Modify.{KnowsModify}
use Rattle.jq_operations.proofs.KnownUpdates.{known_at}
use Rattle.jq_operations.proofs.updates.is_inside_modify.Goals as goal

pub returns-in-Some : goal.returns-in-Some
returns-in-Some c = λ h inputs.
    let ns = c.args.nodes.now in
    let count = c.in-Some.count in
    let within : count ≤ c.args.env = leb-true count c.args.env h in
    ∥∥₁_map c.in-Some.ensures
    (λ known.
    known_at ns inputs count c.args.env c.program_comes_first.ensures c.program_is_a_list.ensures.grow c.the_preludes_update_stays.ensures within c.requires
    (subst (λ bs. KnowsModify bs (Some count)) c.program.ensures known))
