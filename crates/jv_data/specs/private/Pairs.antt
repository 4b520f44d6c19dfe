-- The order of two containers, by the parts that are left to compare.
use Rattle.std.specs.Prelude.{Result, Ok, Err}
use Rattle.std.specs.Borrow.{Bor}
use Rattle.std.specs.Ordering.{ordering_then}
use Rattle.std.specs.declared.cmp.Ordering.{Ordering}
use Rattle.jv_data.specs.Value.{compare, compare_items, compare_members}
use Rattle.jv_data.specs.View.{view, items_view, members_view}
use Rattle.jv_data.specs.declared.pairs.Pair.{Pair}
use Rattle.jv_data.specs.declared.pairs.Pair.TheVariants.{Items, Members}
use Rattle.jv_data.specs.declared.values.Val.{Val}

abbrev pub parts_order : Pair → Ordering
parts_order (Items left right) = compare_items (items_view left.now) (items_view right.now)
parts_order (Members left right) = compare_members (members_view left) (members_view right)

-- the order that a result tells: that of the next part of each, or of what is left after them if these are equal; or the order itself
abbrev pub told_order : Result (Bor Val × Bor Val × Pair) Ordering → Ordering
told_order (Ok next) = ordering_then (compare (view next.0.now) (view next.1.now)) (parts_order next.2)
told_order (Err o) = o
