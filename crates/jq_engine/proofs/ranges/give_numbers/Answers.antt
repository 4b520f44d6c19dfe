use Rattle.std.proofs.Common.{to_z-of_z}
use Rattle.jq_engine.proofs.ranges.give_numbers.Goals as goal

pub returns : goal.returns
returns c = simp (to_z-of_z, c.ranges.start, c.ranges.end) at c.deliver.ensures
