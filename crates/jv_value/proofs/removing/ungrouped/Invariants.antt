use Rattle.std.proofs.Common.{◌≡◌, ◌++◌, [], map}
use Rattle.jv_data.specs.View.{view}
use Rattle.jv_value.specs.private.ItemGroups.{grouped_from, groups_in}
use Rattle.jv_value.proofs.removing.ungrouped.Given as goal

abbrev pub invariant-loop-item : goal.invariant-loop-item
invariant-loop-item l = (l.fn.items.items ≡ l.yielded ++ l.item-iterator.rest.items) × (groups_in l.groups.items ≡ grouped_from [] 0 (map view l.yielded))
