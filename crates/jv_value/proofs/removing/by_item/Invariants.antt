use Rattle.std.proofs.Common.{◌≡◌, ◌++◌, map}
use Rattle.jv_data.specs.View.{view}
use Rattle.jv_value.specs.private.ItemGroups.{grouped_from, groups_in}
use Rattle.jv_value.specs.private.Locations.{locations_in}
use Rattle.jv_value.proofs.removing.by_item.Given as goal

abbrev pub invariant-loop-location : goal.invariant-loop-location
invariant-loop-location l = (l.fn.locations.items ≡ l.yielded ++ l.location-iterator.rest.items) × (groups_in l.groups.items ≡ grouped_from (locations_in l.yielded) 0 (map view l.fn.items.items))
