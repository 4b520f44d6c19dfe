use Rattle.std.proofs.Common.{◌+◌, ◌*◌}
use Rattle.jv_data.proofs.dropping.+arrays.Given as goal

abbrev pub decreases-arrays_may_be_deep : goal.decreases-arrays_may_be_deep
decreases-arrays_may_be_deep l = 2 * l.levels + 1

abbrev pub decreases-array_leads_deep : goal.decreases-array_leads_deep
decreases-array_leads_deep l = 2 * l.levels
