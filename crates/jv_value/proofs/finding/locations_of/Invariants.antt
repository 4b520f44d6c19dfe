use Rattle.std.proofs.Common.{◌≡◌, map, drop}
use Rattle.jv_data.specs.View.{view}
use Rattle.jv_value.specs.Locations.{locations_of}
use Rattle.jv_value.specs.Results.{map_ok}
use Rattle.jv_value.specs.private.Steps.{before_all, place_view, stride_of}
use Rattle.jv_value.proofs.finding.locations_of.Given as goal

-- the locations that the rest of the path names in the part, as locations in the whole value
abbrev pub invariant-loop-key : goal.invariant-loop-key
invariant-loop-key l = map_ok (before_all (map stride_of l.steps.items)) (locations_of (place_view l.place) (map view (drop l.key-index l.path))) ≡ locations_of (view l.value) (map view l.path)
