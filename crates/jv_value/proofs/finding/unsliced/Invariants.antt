use Rattle.std.proofs.Common.{◌≡◌, ◌++◌}
use Rattle.std.specs.List.{flat_map}
use Rattle.jv_value.specs.Locations.{unsliced}
use Rattle.jv_value.specs.private.Locations.{locations_in}
use Rattle.jv_value.proofs.finding.unsliced.Given as goal

abbrev pub invariant-loop-location : goal.invariant-loop-location
invariant-loop-location l = (l.fn.locations.items ≡ l.yielded ++ l.location-iterator.rest.items) × (locations_in l.all.items ≡ flat_map (unsliced l.from l.to) (locations_in l.yielded))
