use Rattle.std.proofs.Common.{◌≡◌, ◌≤◌, drop}
use Rattle.std.specs.Slice.Iter.{iter_rest}
use Rattle.jv_data.specs.Value.{compare_items, compare_members}
use Rattle.jv_data.proofs.shared.Depths.{depth_under}
use Rattle.jv_data.specs.Held.{members_in}
use Rattle.jv_data.specs.Shared.{entries_in}
use Rattle.jv_data.specs.View.{items_view, members_view}
use Rattle.jv_data.proofs.ordering.+ordering.Given as goal

-- the result depends on the remaining items
abbrev pub invariant-order_items-loop-item : goal.invariant-order_items-loop-item
invariant-order_items-loop-item l =
    compare_items (items_view l.left) (items_view l.right) ≡ compare_items (items_view (drop l.item-index l.left)) (items_view (iter_rest l.others))

abbrev pub invariant-order_members-loop-member : goal.invariant-order_members-loop-member
invariant-order_members-loop-member l =
    (compare_members (members_in l.left) (members_in l.right) ≡ compare_members (members_view l.member-iterator) (members_view l.others))
    × (depth_under l.member-iterator ≤ depth_under (entries_in l.left))
