-- What the keys of a path lead through.
use Rattle.std.specs.Prelude.{◌≡◌, ◌∷◌, [], ℕ, List, length, map, slice_range, MatchResult, Option, Some, None, option_map, unwrap_or, Result, Ok, Err, ok_or}
use Rattle.std.specs.List.{flat_map}
use Rattle.std.specs.Option.{option_map_or}
use Rattle.jv_data.specs.Fails.{FailsAs}
use Rattle.jv_data.specs.View.{view}
use Rattle.jv_data.specs.declared.failures.Fail.{Fail}
use Rattle.jv_data.specs.Members.{member_at}
use Rattle.jv_data.specs.Value.{Value, null, number, string, array, object, items_of, values_of}
use Rattle.jv_value.specs.ErrorTexts.{cannot_index, key_name, not_slice_bounds}
use Rattle.jv_value.specs.Index.{item_at, place_of, start_in, end_in}
use Rattle.jv_value.specs.Locations.{Location, Selector, at, key, after, unsliced}
use Rattle.jv_value.specs.Slice.{range_of}
use Rattle.jv_value.specs.private.Locations.{selector_of}
use Rattle.jv_value.specs.declared.finding.Place.{Place}
use Rattle.jv_value.specs.declared.finding.Place.TheVariants as place
use Rattle.jv_value.specs.declared.finding.Step.{Step}
use Rattle.jv_value.specs.declared.finding.Step.TheVariants.{Child, Slice}

-- to an item or a member, or to the items from one index to another
pub data Stride : Type 0 where
  to_part : Selector → Stride
  to_items : ℕ → ℕ → Stride

-- where a key leads from a value; None if paths that begin with it name no locations
abbrev pub stride : Value → Value → Result (Option (Stride × Value)) Value
stride null k = Ok None
stride (object ms) (string s) = Ok (option_map (λ v. (to_part (key s), v)) (member_at s ms))
stride (array vs) (number n) = Ok (option_map (λ i. (to_part (at i), unwrap_or (item_at n (values_of vs)) null)) (place_of (length (values_of vs)) n))
stride (array vs) (object b) = ok_or (option_map (λ r. Some (to_items r.0 r.1, array (items_of (slice_range (values_of vs) r.0 r.1)))) (range_of (length (values_of vs)) (start_in b) (end_in b))) (string not_slice_bounds)
stride (string s) (object b) = option_map_or (λ r. Err (string (cannot_index (string s) (key_name (object b))))) (range_of (length s) (start_in b) (end_in b)) (Err (string not_slice_bounds))
stride v k = Err (string (cannot_index v (key_name k)))

-- locations in the part, as locations in the value
abbrev pub before : Stride → List Location → List Location
before (to_part t) qs = after t qs
before (to_items a b) qs = flat_map (unsliced a b) qs

-- the same for several strides, the first of which begins at the value
abbrev pub before_all : List Stride → List Location → List Location
before_all [] qs = qs
before_all (s ∷ ss) qs = before s (before_all ss qs)

abbrev pub stride_of : Step → Stride
stride_of (Child c) = to_part (selector_of c)
stride_of (Slice a b) = to_items a b

abbrev pub place_view : Place → Value
place_view (place.Value v) = view v.now
place_view (place.Items xs) = array (items_of (map view xs.now))

-- where a step of the code leads
abbrev pub led : Option (Step × Place) → Option (Stride × Value)
led o = option_map (λ r. (stride_of r.0, place_view r.1)) o

abbrev pub LeadsOn : Value → Value → Option (Step × Place) → Type 0
LeadsOn v k o = stride v k ≡ Ok (led o)

abbrev pub TakesStep : Value → Value → Result (Option (Step × Place)) Fail → Type 0
TakesStep v k result = MatchResult result (λ o. LeadsOn v k o) (λ f. FailsAs f (stride v k))
