-- The locations that a path names, key by key.
use Rattle.std.proofs.Common.{◌≡◌, ◌∙◌, ℕ, ℤ, List, [], ◌∷◌, ◌++◌, length, Option, Some, None, Result, Ok, Err, unwrap_or, slice_range, ap, sym, refl}
use Rattle.std.specs.Option.{option_map, option_map_or, ok_or}
use Rattle.jv_data.specs.Members.{member_at}
use Rattle.jv_data.specs.Value.{Value, null, number, string, array, object, items_of, values_of, Members}
use Rattle.jv_data.proofs.shared.Items.{values_of-items_of}
use Rattle.jv_value.specs.ErrorTexts.{cannot_index, key_name, not_slice_bounds}
use Rattle.jv_value.specs.Index.{item_at, place_of, start_in, end_in}
use Rattle.jv_value.specs.Locations.{Location, at, key, locations_of}
use Rattle.jv_value.specs.Results.{and_then, map_ok}
use Rattle.jv_value.specs.Slice.{range_of}
use Rattle.jv_value.specs.private.Steps.{Stride, to_part, to_items, stride, before, before_all}

-- the locations that the rest of a path names after a stride
abbrev pub further : List Value → Option (Stride × Value) → Result (List Location) Value
further ks o = option_map_or (λ r. map_ok (before r.0) (locations_of r.1 ks)) o (Ok [])

one_mapped : {A B C : Type 0} (f : A → B) (g : B → C) (d : C) (o : Option A) → option_map_or (λ a. g (f a)) o d ≡ option_map_or g (option_map f o) d
one_mapped f g d None = refl
one_mapped f g d (Some a) = refl

one_or_error : {A : Type 0} (f : A → Option (Stride × Value)) (ks : List Value) (e : Value) (o : Option A) → option_map_or (λ a. further ks (f a)) o (Err e) ≡ and_then (ok_or (option_map f o) e) (further ks)
one_or_error f ks e None = refl
one_or_error f ks e (Some a) = refl

error_either_way : {A : Type 0} (e f : Value) (ks : List Value) (o : Option A) → option_map_or (λ a. Err e) o (Err f) ≡ and_then (option_map_or (λ a. Err e) o (Err f)) (further ks)
error_either_way e f ks None = refl
error_either_way e f ks (Some a) = refl

pub by_strides : (v k : Value) (ks : List Value) → locations_of v (k ∷ ks) ≡ and_then (stride v k) (further ks)
by_strides null k ks = refl
by_strides (object ms) (string s) ks = one_mapped (λ v. (to_part (key s), v)) (λ r. map_ok (before r.0) (locations_of r.1 ks)) (Ok []) (member_at s ms)
by_strides (array vs) (number n) ks = one_mapped (λ i. (to_part (at i), unwrap_or (item_at n (values_of vs)) null)) (λ r. map_ok (before r.0) (locations_of r.1 ks)) (Ok []) (place_of (length (values_of vs)) n)
by_strides (array vs) (object b) ks = one_or_error (λ r. Some (to_items r.0 r.1, array (items_of (slice_range (values_of vs) r.0 r.1)))) ks (string not_slice_bounds) (range_of (length (values_of vs)) (start_in b) (end_in b))
by_strides (string s) (object b) ks = error_either_way (string (cannot_index (string s) (key_name (object b)))) (string not_slice_bounds) ks (range_of (length s) (start_in b) (end_in b))
by_strides v k ks = refl

pub before_all-last : (ss : List Stride) (s : Stride) (qs : List Location) → before_all (ss ++ s ∷ []) qs ≡ before_all ss (before s qs)
before_all-last [] s qs = refl
before_all-last (t ∷ ss) s qs = ap (before t) (before_all-last ss s qs)

nothing_before : (s : Stride) → before s [] ≡ []
nothing_before (to_part t) = refl
nothing_before (to_items a b) = refl

pub nothing_before_all : (ss : List Stride) → before_all ss [] ≡ []
nothing_before_all [] = refl
nothing_before_all (s ∷ ss) = ap (before s) (nothing_before_all ss) ∙ nothing_before s

before_last : (ss : List Stride) (s : Stride) (r : Result (List Location) Value) → map_ok (before_all (ss ++ s ∷ [])) r ≡ map_ok (before_all ss) (map_ok (before s) r)
before_last ss s (Ok qs) = ap Ok (before_all-last ss s qs)
before_last ss s (Err e) = refl

-- one key further
pub strides_further : (v k part : Value) (ks : List Value) (s : Stride) (ss : List Stride) → stride v k ≡ Ok (Some (s, part)) → map_ok (before_all (ss ++ s ∷ [])) (locations_of part ks) ≡ map_ok (before_all ss) (locations_of v (k ∷ ks))
strides_further v k part ks s ss h = before_last ss s (locations_of part ks) ∙ ap (λ r. map_ok (before_all ss) (and_then r (further ks))) (sym h) ∙ ap (map_ok (before_all ss)) (sym (by_strides v k ks))

-- a key that leads nowhere
pub strides_end : (v k : Value) (ks : List Value) (ss : List Stride) → stride v k ≡ Ok None → map_ok (before_all ss) (locations_of v (k ∷ ks)) ≡ Ok []
strides_end v k ks ss h = ap (map_ok (before_all ss)) (by_strides v k ks ∙ ap (λ r. and_then r (further ks)) h) ∙ ap Ok (nothing_before_all ss)

-- an index and the bounds of a slice, in an array
pub stride_item : (vs : List Value) (n : ℤ) (o : Option ℕ) → place_of (length vs) n ≡ o → stride (array (items_of vs)) (number n) ≡ Ok (option_map (λ i. (to_part (at i), unwrap_or (item_at n vs) null)) o)
stride_item vs n o e =
    ap (λ ws. Ok (option_map (λ i. (to_part (at i), unwrap_or (item_at n ws) null)) (place_of (length ws) n))) (values_of-items_of vs)
    ∙ ap (λ p. Ok (option_map (λ i. (to_part (at i), unwrap_or (item_at n vs) null)) p)) e

pub stride_slice : (vs : List Value) (ms : Members) (o : Option (ℕ × ℕ)) → range_of (length vs) (start_in ms) (end_in ms) ≡ o
    → stride (array (items_of vs)) (object ms) ≡ ok_or (option_map (λ r. Some (to_items r.0 r.1, array (items_of (slice_range vs r.0 r.1)))) o) (string not_slice_bounds)
stride_slice vs ms o e =
    ap (λ ws. ok_or (option_map (λ r. Some (to_items r.0 r.1, array (items_of (slice_range ws r.0 r.1)))) (range_of (length ws) (start_in ms) (end_in ms))) (string not_slice_bounds)) (values_of-items_of vs)
    ∙ ap (λ p. ok_or (option_map (λ r. Some (to_items r.0 r.1, array (items_of (slice_range vs r.0 r.1)))) p) (string not_slice_bounds)) e
