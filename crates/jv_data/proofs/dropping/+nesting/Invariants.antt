use Rattle.std.proofs.Common.{◌+◌, ◌*◌}
use Rattle.jv_data.proofs.dropping.+nesting.Given as goal

abbrev pub decreases-may_be_deep : goal.decreases-may_be_deep
decreases-may_be_deep l = 3 * l.levels + 1

abbrev pub decreases-may_lead_deep : goal.decreases-may_lead_deep
decreases-may_lead_deep l = 3 * l.levels + 2

abbrev pub decreases-leads_deep : goal.decreases-leads_deep
decreases-leads_deep l = 3 * l.levels
