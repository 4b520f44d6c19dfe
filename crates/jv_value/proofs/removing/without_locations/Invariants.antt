use Rattle.jv_data.specs.View.{view}
use Rattle.jv_value.specs.DeletePaths.{without_locations}
use Rattle.jv_value.specs.private.Locations.{locations_in}
use Rattle.jv_value.specs.private.Removals.{AllLeave}
use Rattle.jv_value.proofs.removing.without_locations.Given as goal

abbrev pub invariant-loop : goal.invariant-loop
invariant-loop l = AllLeave l.opened.items (without_locations (locations_in l.within.items) (view l.part)) (without_locations (locations_in l.fn.locations.items) (view l.fn.value))
