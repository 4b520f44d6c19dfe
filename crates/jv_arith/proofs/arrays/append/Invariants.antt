use Rattle.std.proofs.Common.{◌≡◌, ◌++◌, map, drop}
use Rattle.jv_data.specs.Held.{values_in}
use Rattle.jv_data.specs.View.{view}
use Rattle.jv_arith.proofs.arrays.append.Given as goal

-- the result depends on the items that are still to be added
abbrev pub invariant-loop-item : goal.invariant-loop-item
invariant-loop-item l = values_in l.initial.left ++ map view l.item-items ≡ values_in l.left ++ map view (drop l.item-index l.item-items)
