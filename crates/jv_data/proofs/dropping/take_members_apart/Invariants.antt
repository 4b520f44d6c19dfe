use Rattle.std.proofs.Common.{length}
use Rattle.jv_data.proofs.dropping.take_members_apart.Given as goal

abbrev pub decreases-loop-member : goal.decreases-loop-member
decreases-loop-member l = length l.map.entries
