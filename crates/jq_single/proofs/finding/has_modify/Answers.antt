use Rattle.std.proofs.Math.Logic.{∥∥₁_map}
use Rattle.jq_single.proofs.UpdateTurns.{modify_outside}
use Rattle.jq_single.proofs.finding.has_modify.Goals as goal

pub returns : goal.returns
returns c = λ h inputs. ∥∥₁_map (rw c.outside_of-outside.ensures at (c.has_modify.ensures h inputs)) (modify_outside c.the_preludes_update_stays.ensures inputs c.args.scope.now)
