use Rattle.jq_meaning.proofs.Ranges.{range_up, range_down}
use Rattle.jq_meaning.proofs.laws.ranges_stop_at_the_end.Goals as goal

pub returns : goal.returns
returns c = record { upwards = range_up; downwards = range_down }
