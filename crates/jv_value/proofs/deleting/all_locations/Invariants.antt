use Rattle.std.proofs.Common.{◌≡◌, ◌++◌, drop}
use Rattle.jv_data.specs.View.{view}
use Rattle.jv_value.specs.DeletePaths.{all_locations}
use Rattle.jv_value.specs.Results.{map_ok}
use Rattle.jv_value.specs.DeletePaths.{paths_in}
use Rattle.jv_value.specs.private.Locations.{locations_in}
use Rattle.jv_value.proofs.deleting.all_locations.Given as goal

-- the locations found so far, and those still to be found
abbrev pub invariant-loop-path : goal.invariant-loop-path
invariant-loop-path l = all_locations (view l.value) (paths_in l.paths) ≡ map_ok (λ rs. locations_in l.locations.items ++ rs) (all_locations (view l.value) (paths_in (drop l.path-index l.paths)))
