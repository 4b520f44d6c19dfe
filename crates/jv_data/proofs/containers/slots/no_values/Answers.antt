use Rattle.std.proofs.Common.{arith}
use Rattle.std.proofs.lemmas.Grind.{common_steps}
use Rattle.jv_data.proofs.Drafts.{none_more}
use Rattle.jv_data.proofs.containers.slots.no_values.Goals as goal

pub loop-preserved : goal.loop-preserved
loop-preserved c = (grind (arith, common_steps), rw c.in_ok-push.ensures.items (none_more c.loop.values.items c.loop.invariant.1))
