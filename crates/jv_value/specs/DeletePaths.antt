-- A value without the parts at some paths (manual of jq 1.7, "delpaths(PATHS)"). All locations are deleted at once.
use Rattle.std.specs.Prelude.{ℕ, ◌+◌, ◌==◌, Bool, true, false, List, [], ◌∷◌, ◌++◌, map, if◌then◌else◌, Result, Ok, Vec}
use Rattle.std.specs.Cmp.Lexicographic.{slice_cmp}
use Rattle.std.specs.Ordering.{is_eq, is_gt}
use Rattle.std.specs.declared.alloc.Global.{Global}
use Rattle.jv_data.specs.Value.{Value, null, array, object, Items, no_items, item, Members, no_members, member, text_cmp, compare}
use Rattle.jv_data.specs.View.{view}
use Rattle.jv_data.specs.declared.values.Val.{Val}
use Rattle.jv_value.specs.Locations.{Selector, at, key, Location, locations_of}
use Rattle.jv_value.specs.Results.{and_then, map_ok}

abbrev pub same_selector : Selector → Selector → Bool
same_selector (at i) (at j) = i == j
same_selector (key s) (key t) = is_eq (text_cmp s t)
same_selector t u = false

-- of some locations, those that begin with a selector, relative to the part after this selector
abbrev pub following : Selector → List Location → List Location
following t [] = []
following t ([] ∷ qs) = following t qs
following t ((u ∷ q) ∷ qs) = if same_selector t u then q ∷ following t qs else following t qs

-- whether one of the locations is the value itself
abbrev pub names_itself : List Location → Bool
names_itself [] = false
names_itself ([] ∷ qs) = true
names_itself ((u ∷ q) ∷ qs) = names_itself qs

-- the value without the parts at some locations
abbrev mutual
  pub without_locations : List Location → Value → Value
  without_locations qs (array vs) = array (items_left qs 0 vs)
  without_locations qs (object ms) = object (members_left qs ms)
  without_locations qs v = v

  -- the remaining items from index i on
  pub items_left : List Location → ℕ → Items → Items
  items_left qs i no_items = no_items
  items_left qs i (item v vs) =
      if names_itself (following (at i) qs) then items_left qs (i + 1) vs
      else (item (without_locations (following (at i) qs) v) (items_left qs (i + 1) vs))

  pub members_left : List Location → Members → Members
  members_left qs no_members = no_members
  members_left qs (member s v ms) =
      if names_itself (following (key s) qs) then members_left qs ms
      else (member s (without_locations (following (key s) qs) v) (members_left qs ms))

-- null if the value itself is a location
abbrev pub removed : List Location → Value → Value
removed qs v = if names_itself qs then null else without_locations qs v

-- paths in order, as arrays
abbrev pub put_in_order : List Value → List (List Value) → List (List Value)
put_in_order p [] = p ∷ []
put_in_order p (q ∷ ps) = if is_gt (slice_cmp compare p q) then q ∷ put_in_order p ps else (p ∷ q ∷ ps)

abbrev pub in_order : List (List Value) → List (List Value)
in_order [] = []
in_order (p ∷ ps) = put_in_order p (in_order ps)

-- the locations that some paths name in the original value, or the error of the first path that has one
abbrev pub all_locations : Value → List (List Value) → Result (List Location) Value
all_locations v [] = Ok []
all_locations v (p ∷ ps) = and_then (locations_of v p) (λ qs. map_ok (λ rs. qs ++ rs) (all_locations v ps))

-- the order of the paths matters only for which error is raised
abbrev pub delpaths_of : Value → List (List Value) → Result Value Value
delpaths_of v ps = map_ok (λ qs. removed qs v) (all_locations v (in_order ps))

-- the paths, as lists of keys
abbrev pub paths_in : List (Vec Val Global) → List (List Value)
paths_in ps = map (λ p. map view p.items) ps
