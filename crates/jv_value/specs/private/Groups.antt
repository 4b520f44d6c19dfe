-- Locations in the members of an object, by the name of the member.
use Rattle.std.specs.Prelude.{◌≡◌, List, [], Option, String, Vec}
use Rattle.std.specs.BTreeMap.{BTreeMap, get}
use Rattle.std.specs.Option.{option_map_or}
use Rattle.std.specs.String.{string_cmp}
use Rattle.std.specs.declared.alloc.Global.{Global}
use Rattle.jv_data.specs.Text.{text_of}
use Rattle.jv_value.specs.DeletePaths.{following}
use Rattle.jv_value.specs.Locations.{key, Location}
use Rattle.jv_value.specs.private.Locations.{locations_in}
use Rattle.jv_value.specs.declared.locations.Child.{Child}

abbrev pub Group : Type 0
Group = Vec (Vec Child Global) Global

abbrev pub Groups : Type 0
Groups = BTreeMap (String Global) Group

-- a missing group has no locations
abbrev pub held_in : Option Group → List Location
held_in o = option_map_or (λ g. locations_in g.items) o []

-- The groups have the locations in each member, relative to the member.
pub record AreGrouped (groups : Groups) (qs : List Location) : Type 0 where
  pub same : (s : String Global) → held_in (get string_cmp groups s) ≡ following (key (text_of s)) qs
