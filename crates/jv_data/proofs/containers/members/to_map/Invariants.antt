use Rattle.std.proofs.Common.{◌≡◌, ◌≤◌, drop, length, zip}
use Rattle.jv_data.specs.View.{members_view}
use Rattle.jv_data.proofs.containers.members.to_map.Given as goal

-- the map has the members from this index on
abbrev pub invariant-loop-left : goal.invariant-loop-left
invariant-loop-left l = (l.left ≤ length l.names) × (l.left ≤ length l.values) × (members_view l.map.entries ≡ members_view (drop l.left (zip l.names l.values)))

abbrev pub decreases-loop-left : goal.decreases-loop-left
decreases-loop-left l = l.left
