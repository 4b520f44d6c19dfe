-- The items of a slice, as values.
use Rattle.std.proofs.Common.{◌≡◌, ◌∙◌, ℕ, ◌-◌, List, map, take, drop, length, slice_range, Some, ap, sym, Ok}
use Rattle.std.specs.Option.{option_map, ok_or}
use Rattle.std.proofs.lemmas.List.{length-map, take-map, drop-map}
use Rattle.jv_data.specs.Value.{Value, string, array, items_of}
use Rattle.jv_data.specs.View.{view}
use Rattle.jv_data.specs.declared.values.Val.{Val}
use Rattle.jv_value.specs.ErrorTexts.{not_slice_bounds}
use Rattle.jv_value.specs.Slice.{range_of, slice_of_array}

pub map-slice_range : {X Y : Type 0} (f : X → Y) (xs : List X) (a b : ℕ) → map f (slice_range xs a b) ≡ slice_range (map f xs) a b
map-slice_range f xs a b = sym (take-map f (b - a) (drop a xs)) ∙ ap (take (b - a)) (sym (drop-map f a xs))

-- the slice that was found
pub sliced_items : (xs ps : List Val) (start end : Value) (a b : ℕ) → Some (a, b) ≡ range_of (length xs) start end → map view ps ≡ map view (slice_range xs a b) → slice_of_array (map view xs) start end ≡ Ok (array (items_of (map view ps)))
sliced_items xs ps start end a b e f =
    ap (λ n. ok_or (option_map (λ r. array (items_of (slice_range (map view xs) r.0 r.1))) (range_of n start end)) (string not_slice_bounds)) (length-map xs view)
    ∙ ap (λ o. ok_or (option_map (λ r. array (items_of (slice_range (map view xs) r.0 r.1))) o) (string not_slice_bounds)) (sym e)
    ∙ ap (λ ws. Ok (array (items_of ws))) (sym (map-slice_range view xs a b) ∙ sym f)
