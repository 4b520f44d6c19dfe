use Rattle.std.proofs.Common.{◌≤◌, length}
use Rattle.jv_data.proofs.shared.Depths.{depth_of_all, depth_under}
use Rattle.jv_data.proofs.+discarding.Given as goal

abbrev pub invariant-dropping::discard_items-loop-item : goal.invariant-dropping::discard_items-loop-item
invariant-dropping::discard_items-loop-item l = goal.no_deeper-dropping::discard_items-loop-item l

abbrev pub decreases-dropping::discard_items-loop-item : goal.decreases-dropping::discard_items-loop-item
decreases-dropping::discard_items-loop-item l = goal.left-dropping::discard_items-loop-item l

-- the values that are left are no deeper than all of them
abbrev pub invariant-dropping::discard_members-loop-value : goal.invariant-dropping::discard_members-loop-value
invariant-dropping::discard_members-loop-value l = depth_of_all l.values.items ≤ depth_of_all l.initial.values.items

abbrev pub decreases-dropping::discard_members-loop-value : goal.decreases-dropping::discard_members-loop-value
decreases-dropping::discard_members-loop-value l = length l.values.items

abbrev pub invariant-dropping::discard_members-loop-member : goal.invariant-dropping::discard_members-loop-member
invariant-dropping::discard_members-loop-member l = depth_under l.map.entries ≤ depth_under l.initial.map.entries

abbrev pub decreases-dropping::discard_members-loop-member : goal.decreases-dropping::discard_members-loop-member
decreases-dropping::discard_members-loop-member l = length l.map.entries
