use Rattle.std.proofs.Common.{◌≡◌, ◌++◌, map, drop}
use Rattle.jv_data.specs.Held.{values_in}
use Rattle.jv_data.specs.View.{view}
use Rattle.jv_arith.proofs.Items.{kept}
use Rattle.jv_arith.proofs.arrays.left_over.Given as goal

-- the result depends on the remaining items
abbrev pub invariant-loop-item : goal.invariant-loop-item
invariant-loop-item l = kept (values_in l.right) (values_in l.left) ≡ map view l.items.items ++ kept (values_in l.right) (map view (drop l.item-index l.item-items))
