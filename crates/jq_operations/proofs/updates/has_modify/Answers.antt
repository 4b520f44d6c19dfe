use Rattle.std.proofs.Math.Logic.{∥∥₁_map}
use Rattle.jq_operations.proofs.updates.has_modify.Goals as goal

pub returns : goal.returns
returns c = λ h inputs. ∥∥₁_map (c.is_inside_modify.ensures h inputs) (c.loop-node.invariant.keeps inputs)
