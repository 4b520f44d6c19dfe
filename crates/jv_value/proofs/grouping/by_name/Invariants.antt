use Rattle.std.proofs.Common.{◌≡◌, ◌++◌}
use Rattle.jv_value.specs.private.Groups.{AreGrouped}
use Rattle.jv_value.specs.private.Locations.{locations_in}
use Rattle.jv_value.proofs.grouping.by_name.Given as goal

abbrev pub invariant-loop-location : goal.invariant-loop-location
invariant-loop-location l = (l.fn.locations.items ≡ l.yielded ++ l.location-iterator.rest.items) × AreGrouped l.groups (locations_in l.yielded)
