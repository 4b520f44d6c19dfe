use Rattle.std.proofs.Common.{◌≡◌, ◌++◌}
use Rattle.jv_value.specs.Locations.{after}
use Rattle.jv_value.specs.private.Locations.{locations_in, selector_of}
use Rattle.jv_value.proofs.finding.after.Given as goal

abbrev pub invariant-loop-location : goal.invariant-loop-location
invariant-loop-location l = (l.fn.locations.items ≡ l.yielded ++ l.location-iterator.rest.items) × (locations_in l.all.items ≡ after (selector_of l.child) (locations_in l.yielded))
