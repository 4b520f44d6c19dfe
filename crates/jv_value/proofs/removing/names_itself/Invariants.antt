use Rattle.std.proofs.Common.{◌≡◌, drop}
use Rattle.jv_value.specs.DeletePaths.{names_itself}
use Rattle.jv_value.specs.private.Locations.{locations_in}
use Rattle.jv_value.proofs.removing.names_itself.Given as goal

abbrev pub invariant-loop-location : goal.invariant-loop-location
invariant-loop-location l = names_itself (locations_in l.locations) ≡ names_itself (locations_in (drop l.location-index l.locations))
