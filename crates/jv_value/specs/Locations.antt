-- The locations in a value that a path names.
use Rattle.std.specs.Prelude.{ℕ, ◌+◌, ◌-◌, nat_lt, List, [], ◌∷◌, map, length, slice_range, if◌then◌else◌, unwrap_or, Result, Ok, Err}
use Rattle.std.specs.List.{flat_map, range_with_len}
use Rattle.std.specs.Option.{option_map_or}
use Rattle.jv_data.specs.Members.{member_at}
use Rattle.jv_data.specs.Value.{Value, null, number, string, array, object, items_of, values_of}
use Rattle.jv_value.specs.ErrorTexts.{cannot_index, key_name, not_slice_bounds}
use Rattle.jv_value.specs.Index.{item_at, place_of, start_in, end_in}
use Rattle.jv_value.specs.Results.{map_ok}
use Rattle.jv_value.specs.Slice.{range_of}

-- a selector from an array to the item at an index, or from an object to the value at a key
pub data Selector : Type 0 where
  at : ℕ → Selector
  key : List ℕ → Selector

-- the selectors that lead to a location
abbrev pub Location : Type 0
Location = List Selector

-- locations in a part, as locations in the whole value
abbrev pub after : Selector → List Location → List Location
after t qs = map (λ q. t ∷ q) qs

-- a location in the slice from a to b, as locations in the whole array: the slice itself becomes each of its items
abbrev pub unsliced : ℕ → ℕ → Location → List Location
unsliced a b [] = map (λ i. at i ∷ []) (range_with_len a (b - a))
unsliced a b (at i ∷ q) = if nat_lt i (b - a) then ((at (a + i) ∷ q) ∷ []) else []
unsliced a b (key s ∷ q) = []

-- the locations that a path names; a missing part and a part of null are no locations
abbrev pub locations_of : Value → List Value → Result (List Location) Value
locations_of v [] = Ok ([] ∷ [])
locations_of null (k ∷ ks) = Ok []
locations_of (object ms) (string s ∷ ks) = option_map_or (λ v. map_ok (after (key s)) (locations_of v ks)) (member_at s ms) (Ok [])
locations_of (array vs) (number n ∷ ks) = option_map_or (λ i. map_ok (after (at i)) (locations_of (unwrap_or (item_at n (values_of vs)) null) ks)) (place_of (length (values_of vs)) n) (Ok [])
locations_of (array vs) (object b ∷ ks) = option_map_or (λ r. map_ok (flat_map (unsliced r.0 r.1)) (locations_of (array (items_of (slice_range (values_of vs) r.0 r.1))) ks)) (range_of (length (values_of vs)) (start_in b) (end_in b)) (Err (string not_slice_bounds))
locations_of (string s) (object b ∷ ks) = option_map_or (λ r. Err (string (cannot_index (string s) (key_name (object b))))) (range_of (length s) (start_in b) (end_in b)) (Err (string not_slice_bounds))
locations_of v (k ∷ ks) = Err (string (cannot_index v (key_name k)))
