-- The indices at which a list begins in another, one after the other.
use Rattle.std.proofs.Common.{◌≡◌, ◌∙◌, ℕ, zero, suc, ◌+◌, ◌-◌, List, [], ◌∷◌, ◌++◌, Bool, true, false, cond, length, map, take, drop, Option, Some, None, option_map, refl, sym, ap, arith}
use Rattle.std.proofs.lemmas.List.{append-nil, map-append, map-id, length-map, take-map, drop-map}
use Rattle.std.proofs.lemmas.List.FromFn.{filter_of_map_range_with_len_more}
use Rattle.std.proofs.lemmas.Option.{slice_get_past, slice_get-get_or}
use Rattle.std.specs.Borrow.{Bor}
use Rattle.std.specs.Option.{option_copied}
use Rattle.std.specs.Slice.{IsItemAt}
use Rattle.std.specs.Cmp.Lexicographic.{pointwise}
use Rattle.std.specs.List.{starts_with, range_with_len}
use Rattle.std.specs.Prelude.{filter, ◌&&◌, slice_get, unwrap_or}
use Rattle.jv_data.specs.Value.{Value, null, array}
use Rattle.jv_data.specs.View.{items_view, view}
use Rattle.jv_data.specs.declared.values.Val.{Val}
use Rattle.jq_natives.specs.Searching.{places_of, last_item, last_of}

-- ---- one more index

filter_range : (p : ℕ → Bool) (n : ℕ) → filter p (range_with_len 0 (n + 1)) ≡ filter p (range_with_len 0 n) ++ cond (p n) (n ∷ []) []
filter_range p n =
    ap (filter p) (sym (map-id (range_with_len 0 (n + 1)))) ∙ filter_of_map_range_with_len_more p (λ k. k) 0 n n (omega arith)
    ∙ ap (λ ks. filter p ks ++ cond (p n) (n ∷ []) []) (map-id (range_with_len 0 n))

pub place_more : {X : Type 0} (f : ℕ → X) (p : ℕ → Bool) (n : ℕ) → p n ≡ true → map f (filter p (range_with_len 0 (n + 1))) ≡ map f (filter p (range_with_len 0 n)) ++ f n ∷ []
place_more f p n e =
    ap (map f) (filter_range p n ∙ ap (λ b. filter p (range_with_len 0 n) ++ cond b (n ∷ []) []) e) ∙ map-append f (filter p (range_with_len 0 n)) (n ∷ [])

pub no_place_more : {X : Type 0} (f : ℕ → X) (p : ℕ → Bool) (n : ℕ) → p n ≡ false → map f (filter p (range_with_len 0 (n + 1))) ≡ map f (filter p (range_with_len 0 n))
no_place_more f p n e =
    ap (map f) (filter_range p n ∙ ap (λ b. filter p (range_with_len 0 n) ++ cond b (n ∷ []) []) e ∙ append-nil (filter p (range_with_len 0 n)))

-- ---- lists to which a function is applied

pointwise-map : {X Y : Type 0} (f : X → Y) (same : Y → Y → Bool) (xs ys : List X) → pointwise (λ v w. same (f v) (f w)) xs ys ≡ pointwise same (map f xs) (map f ys)
pointwise-map f same [] [] = refl
pointwise-map f same [] (y ∷ ys) = refl
pointwise-map f same (x ∷ xs) [] = refl
pointwise-map f same (x ∷ xs) (y ∷ ys) = ap (λ b. same (f x) (f y) && b) (pointwise-map f same xs ys)

starts-map : {X Y : Type 0} (f : X → Y) (same : Y → Y → Bool) (xs part : List X) (i : ℕ)
    → starts_with (λ v w. same (f v) (f w)) (drop i xs) part ≡ starts_with same (drop i (map f xs)) (map f part)
starts-map f same xs part i =
    pointwise-map f same part (take (length part) (drop i xs))
    ∙ ap (pointwise same (map f part)) (sym (take-map f (length part) (drop i xs)) ∙ ap (take (length part)) (sym (drop-map f i xs)) ∙ ap (λ n. take n (drop i (map f xs))) (sym (length-map part f)))

filter_same : (p q : ℕ → Bool) (ns : List ℕ) → ((n : ℕ) → p n ≡ q n) → filter p ns ≡ filter q ns
filter_same p q [] h = refl
filter_same p q (n ∷ ns) h = ap (λ b. cond b (n ∷ filter p ns) (filter p ns)) (h n) ∙ ap (λ ms. cond (q n) (n ∷ ms) ms) (filter_same p q ns h)

pub places-map : {X Y : Type 0} (f : X → Y) (same : Y → Y → Bool) (part whole : List X) → places_of (λ v w. same (f v) (f w)) part whole ≡ places_of same (map f part) (map f whole)
places-map f same [] whole = refl
places-map f same (x ∷ part) whole =
    filter_same _ _ (range_with_len 0 (length whole)) (starts-map f same whole (x ∷ part))
    ∙ ap (λ n. filter (λ i. starts_with same (drop i (map f whole)) (map f (x ∷ part))) (range_with_len 0 n)) (sym (length-map whole f))

-- ---- the first item and the last

last_after : (v w : Value) (x : Val) (xs : List Val) → last_of v (items_view (x ∷ xs)) ≡ unwrap_or (option_map view (slice_get (x ∷ xs) (length xs))) w
last_after v w x [] = refl
last_after v w x (y ∷ ys) = last_after (view x) w y ys

pub last_is : (xs : List Val) → last_item (array (items_view xs)) ≡ unwrap_or (option_map view (slice_get xs (length xs - 1))) null
last_is [] = refl
last_is (x ∷ xs) = let e : length xs ≡ suc (length xs) - 1 = omega arith in last_after null null x xs ∙ ap (λ n. unwrap_or (option_map view (slice_get (x ∷ xs) n)) null) e

-- ---- an item at an index

pub item_copied : {X : Type 0} (xs : List X) (i : ℕ) (r : Option (Bor X)) → IsItemAt xs i r → option_copied r ≡ slice_get xs i
item_copied xs i None h = sym (slice_get_past xs i h.3)
item_copied xs i (Some x) h = ap Some h.1 ∙ sym (slice_get-get_or xs i x.now h.3.0)

pub get-map : {X Y : Type 0} (f : X → Y) (xs : List X) (i : ℕ) → slice_get (map f xs) i ≡ option_map f (slice_get xs i)
get-map f [] i = refl
get-map f (x ∷ xs) zero = refl
get-map f (x ∷ xs) (suc i) = get-map f xs i
