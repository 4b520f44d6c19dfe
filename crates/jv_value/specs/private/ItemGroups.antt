-- Locations grouped by the items that they are in.
use Rattle.std.specs.Prelude.{◌≡◌, ℕ, ◌+◌, List, [], ◌∷◌, ◌++◌, map, Bool, false, if◌then◌else◌}
use Rattle.jv_data.specs.Value.{Value}
use Rattle.jv_data.specs.View.{view}
use Rattle.jv_value.specs.DeletePaths.{same_selector, following, names_itself, without_locations}
use Rattle.jv_value.specs.Locations.{Selector, at, Location}
use Rattle.jv_value.specs.private.Locations.{locations_in}
use Rattle.jv_value.specs.declared.removing.ItemGroup.{ItemGroup}

abbrev pub groups_in : List ItemGroup → List (Value × List Location)
groups_in xs = map (λ a. (view a.item, locations_in a.locations.items)) xs

-- the items from index i on, each with the locations in it
abbrev pub grouped_from : List Location → ℕ → List Value → List (Value × List Location)
grouped_from qs i [] = []
grouped_from qs i (v ∷ vs) = (v, following (at i) qs) ∷ grouped_from qs (i + 1) vs

-- the new groups hold the locations that the old ones hold, and q, in the same items
abbrev pub AddsLocation : (q : Location) → (old new : List ItemGroup) → Type 0
AddsLocation q old new = (qs : List Location) (vs : List Value) → groups_in old ≡ grouped_from qs 0 vs → groups_in new ≡ grouped_from (qs ++ q ∷ []) 0 vs

abbrev pub begins_with : Selector → Location → Bool
begins_with t [] = false
begins_with t (u ∷ q) = same_selector t u

-- of some locations, those that do not begin with a selector
abbrev pub apart : Selector → List Location → List Location
apart t [] = []
apart t (q ∷ qs) = if begins_with t q then apart t qs else (q ∷ apart t qs)

-- the items without the locations in them
abbrev pub groups_left : List (Value × List Location) → List Value
groups_left [] = []
groups_left (a ∷ xs) = if names_itself a.1 then groups_left xs else (without_locations a.1 a.0 ∷ groups_left xs)
