use Rattle.std.proofs.Common.{◌≡◌, length, map}
use Rattle.jv_data.specs.View.{view}
use Rattle.jv_value.specs.private.Removals.{items_with}
use Rattle.jv_value.proofs.removing.next_item.Given as goal

abbrev pub invariant-loop-group : goal.invariant-loop-group
invariant-loop-group l = (l.opened.items ≡ l.fn.opened.items) × (items_with (map view l.left.items) l.groups.rest.items ≡ items_with (map view l.fn.left.items) l.fn.groups.rest.items)

abbrev pub decreases-loop-group : goal.decreases-loop-group
decreases-loop-group l = length l.groups.rest.items
