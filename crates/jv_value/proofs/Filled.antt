-- Arrays that are filled up with nulls, and items taken out of them.
use Rattle.std.proofs.Common.{◌≡◌, ◌∙◌, ◌<◌, ◌≤◌, ◌+◌, ◌-◌, ℕ, ℤ, pos, negsuc, zero, suc, List, [], ◌∷◌, ◌++◌, length, ap, sym, refl, slice_set, replicate, append_assoc, Bool, true, false, nat_lt, Some, None, Ok, Err, arith, if◌then◌else◌}
use Rattle.std.specs.List.{slice_get}
use Rattle.std.proofs.lemmas.List.{append-nil, length-append, length-set}
use Rattle.std.proofs.lemmas.Bool.Decides.{nat_tests}
use Rattle.jv_data.specs.Value.{Value, null, string, array, items_of}
use Rattle.jv_value.specs.ErrorTexts.{index_too_large, index_before_start}
use Rattle.jv_value.specs.Index.{item_at, place_of}
use Rattle.jv_value.specs.SetPath.{filled, put_item, greatest_index}
use Rattle.std.specs.Option.{option_map_or}

one_less : (n m : ℕ) → m < n → n - m ≡ suc (n - (m + 1))
one_less n m h = omega arith

-- one more null
pub filled_step : (n : ℕ) (vs : List Value) → length vs < n → filled n (vs ++ null ∷ []) ≡ filled n vs
filled_step n vs h =
    append_assoc vs (null ∷ []) (replicate (n - length (vs ++ null ∷ [])) null)
    ∙ ap (λ k. vs ++ null ∷ replicate (n - k) null) (length-append vs (null ∷ []))
    ∙ ap (λ k. vs ++ replicate k null) (sym (one_less n (length vs) h))

pub filled_done : (n : ℕ) (vs : List Value) → n ≤ length vs → filled n vs ≡ vs
filled_done n vs h = let none : n - length vs ≡ 0 = omega arith in ap (λ k. vs ++ replicate k null) none ∙ append-nil vs

pub set_twice : {X : Type 0} (xs : List X) (i : ℕ) (a b : X) → slice_set (slice_set xs i a) i b ≡ slice_set xs i b
set_twice [] zero a b = refl
set_twice [] (suc i) a b = refl
set_twice (x ∷ xs) zero a b = refl
set_twice (x ∷ xs) (suc i) a b = ap (λ ys. x ∷ ys) (set_twice xs i a b)

pub some_if : {X : Type 0} (b : Bool) (x y : X) → (if b then Some x else None) ≡ Some y → (b ≡ true) × (x ≡ y)
some_if true x y e = (refl, cc)
some_if false x y e = absurd (cc)

pub inside : (i n : ℕ) → nat_lt i n ≡ true → i < n
inside i n e = grind (arith, nat_tests)

-- the index is that of an item
pub placed : (n : ℤ) (vs : List Value) (j : ℕ) → place_of (length vs) n ≡ Some j → item_at n vs ≡ slice_get vs j
placed n vs j e = ap (λ o. option_map_or (slice_get vs) o None) e

pub unplaced : (n : ℤ) (vs : List Value) → place_of (length vs) n ≡ None → item_at n vs ≡ None
unplaced n vs e = ap (λ o. option_map_or (slice_get vs) o None) e

-- taking an item out does not change the array after another is put at its index
pub taken_back : (n : ℤ) (vs : List Value) (j : ℕ) (p : Value) → place_of (length vs) n ≡ Some j → put_item n p (slice_set vs j null) ≡ put_item n p vs
taken_back (pos i) vs j p e =
    let both = some_if (nat_lt i (length vs)) i j e in
    let lt : i < length vs = inside i (length vs) both.0 in
    let less : i + 1 ≤ length vs = omega arith in
    let less_set : i + 1 ≤ length (slice_set vs i null) = rw (length-set vs i null) less in
    let same : slice_set (filled (i + 1) (slice_set vs i null)) i p ≡ slice_set (filled (i + 1) vs) i p =
    ap (λ ws. slice_set ws i p) (filled_done (i + 1) (slice_set vs i null) less_set) ∙ set_twice vs i null p ∙ ap (λ ws. slice_set ws i p) (sym (filled_done (i + 1) vs less)) in
    ap (λ k. put_item (pos i) p (slice_set vs k null)) (sym both.1) ∙ ap (λ ws. if nat_lt greatest_index i then Err (string index_too_large) else Ok (array (items_of ws))) same
taken_back (negsuc i) vs j p e =
    let before = Err (string index_before_start) in
    ap (λ n. option_map_or (λ m. Ok (array (items_of (slice_set (slice_set vs j null) m p)))) (place_of n (negsuc i)) before) (length-set vs j null)
    ∙ ap (λ o. option_map_or (λ m. Ok (array (items_of (slice_set (slice_set vs j null) m p)))) o before) e
    ∙ ap (λ ws. Ok (array (items_of ws))) (set_twice vs j null p)
    ∙ sym (ap (λ o. option_map_or (λ m. Ok (array (items_of (slice_set vs m p)))) o before) e)
