use Rattle.std.proofs.Common.{◌≡◌, map, take}
use Rattle.jv_data.specs.View.{view}
use Rattle.jv_data.proofs.copying.copies.Given as goal

abbrev pub invariant-loop-item : goal.invariant-loop-item
invariant-loop-item l = map view l.copied.items ≡ map view (take l.item-index l.items)
