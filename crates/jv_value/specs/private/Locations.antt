-- The locations of the code: each is its selectors, the last one first.
use Rattle.std.specs.Prelude.{List, map, reverse, Vec}
use Rattle.std.specs.declared.alloc.Global.{Global}
use Rattle.jv_data.specs.Shared.{text_in}
use Rattle.jv_value.specs.Locations.{Selector, at, key, Location}
use Rattle.jv_value.specs.declared.locations.Child.{Child}
use Rattle.jv_value.specs.declared.locations.Child.TheVariants.{Item, Member}

abbrev pub selector_of : Child → Selector
selector_of (Item i) = at i
selector_of (Member name) = key (text_in name)

abbrev pub location_in : Vec Child Global → Location
location_in t = map selector_of (reverse t.items)

abbrev pub locations_in : List (Vec Child Global) → List Location
locations_in ts = map location_in ts
