-- Getting a value after setting one.
use Rattle.std.proofs.Common.{◌≡◌, ◌≢◌, ◌∙◌, ◌+◌, ◌-◌, ◌<◌, ◌≤◌, ℕ, ℤ, pos, negsuc, zero, suc, List, [], ◌∷◌, ◌++◌, length, replicate, slice_set, Bool, true, false, nat_lt, if◌then◌else◌, ap, sym, refl, unwrap_or, Option, Some, None, Result, Ok, Err, arith}
use Rattle.std.specs.List.{slice_get}
use Rattle.std.proofs.lemmas.Bool.Decides.{nat_tests}
use Rattle.std.proofs.lemmas.List.{length-append, length-set}
use Rattle.std.proofs.lemmas.Option.{slice_get_past}
use Rattle.jv_data.proofs.shared.Keyed.{found_put, others_put, others_without}
use Rattle.jv_data.proofs.shared.Items.{values_of-items_of}
use Rattle.jv_data.specs.Members.{member_or_null, put, without}
use Rattle.jv_data.specs.Value.{Value, null, number, string, array, object, items_of, values_of, Members, no_members}
use Rattle.jv_value.specs.ErrorTexts.{index_too_large, index_before_start}
use Rattle.jv_value.specs.GetPath.{getpath_of, is_null}
use Rattle.std.specs.Option.{option_map_or}
use Rattle.jv_value.specs.Index.{index_of, item_at, place_of}
use Rattle.jv_value.specs.laws.PlainPaths.{IsPlainKey, AreApart, SetIsGot, SetLeavesOthers}
use Rattle.jv_value.specs.Results.{and_then}
use Rattle.jv_value.specs.SetPath.{filled, greatest_index, part_at, put_at, put_item, setpath_of}
use Rattle.jv_value.proofs.Filled.{inside, placed, some_if}

length_nulls : (n : ℕ) → length (replicate n null) ≡ n
length_nulls zero = refl
length_nulls (suc n) = ap suc (length_nulls n)

-- both calls returned a value
record BothGave {A B : Type 0} (r : Result A Value) (f : A → Result B Value) (b : B) : Type 0 where
  pub first : A
  pub gave : r ≡ Ok first
  pub then_gave : f first ≡ Ok b

both_gave : {A B : Type 0} (r : Result A Value) (f : A → Result B Value) (b : B) → and_then r f ≡ Ok b → BothGave r f b
both_gave (Ok a) f b e = record { first = a; gave = refl; then_gave = e }
both_gave (Err v) f b e = absurd (cc)

get_set : (vs : List Value) (i : ℕ) (p : Value) → i < length vs → slice_get (slice_set vs i p) i ≡ Some p
get_set [] i p h = absurd (omega arith)
get_set (v ∷ vs) zero p h = refl
get_set (v ∷ vs) (suc i) p h = get_set vs i p (omega arith)

get_set_other : (vs : List Value) (i j : ℕ) (p : Value) → i ≢ j → slice_get (slice_set vs i p) j ≡ slice_get vs j
get_set_other [] zero j p h = refl
get_set_other [] (suc i) j p h = refl
get_set_other (v ∷ vs) zero zero p h = absurd (h refl)
get_set_other (v ∷ vs) zero (suc j) p h = refl
get_set_other (v ∷ vs) (suc i) zero p h = refl
get_set_other (v ∷ vs) (suc i) (suc j) p h = get_set_other vs i j p (λ e. h (ap suc e))

get_nulls : (n j : ℕ) → unwrap_or (slice_get (replicate n null) j) null ≡ null
get_nulls zero zero = refl
get_nulls zero (suc j) = refl
get_nulls (suc n) zero = refl
get_nulls (suc n) (suc j) = get_nulls n j

get_more_nulls : (vs : List Value) (n j : ℕ) → unwrap_or (slice_get (vs ++ replicate n null) j) null ≡ unwrap_or (slice_get vs j) null
get_more_nulls [] n zero = get_nulls n zero
get_more_nulls [] n (suc j) = get_nulls n (suc j)
get_more_nulls (v ∷ vs) n zero = refl
get_more_nulls (v ∷ vs) n (suc j) = get_more_nulls vs n j

filled_length : (n : ℕ) (vs : List Value) → n ≤ length (filled n vs)
filled_length n vs =
    let all : length (filled n vs) ≡ length vs + length (replicate (n - length vs) null) = length-append vs (replicate (n - length vs) null) in
    let more : length (replicate (n - length vs) null) ≡ n - length vs = length_nulls (n - length vs) in
    omega arith

-- the result of a put: it is not null, and the part at the key is the one that was put
abbrev Holds : Value → Value → Value → Type 0
Holds w k p = (is_null w ≡ false) × (index_of w k ≡ Ok p)

ok_if_not : (b : Bool) (e a w : Value) → (if b then Err e else Ok a) ≡ Ok w → w ≡ a
ok_if_not true e a w h = absurd (cc)
ok_if_not false e a w h = cc

-- the result of a put at the index of an item
put_there : (o : Option ℕ) (f : ℕ → Value) (e w : Value) → option_map_or (λ j. Ok (f j)) o (Err e) ≡ Ok w → (j : ℕ) × (o ≡ Some j) × (w ≡ f j)
put_there None f e w h = absurd (cc)
put_there (Some j) f e w h = (j, refl, cc)

past : (i n : ℕ) → nat_lt i n ≡ false → n ≤ i
past i n e = grind (arith, nat_tests)

data IsInside (i n : ℕ) : Type 0 where
  is_inside : nat_lt i n ≡ true → IsInside i n
  is_past : nat_lt i n ≡ false → IsInside i n

inside_by : (i n : ℕ) (b : Bool) → nat_lt i n ≡ b → IsInside i n
inside_by i n true e = is_inside e
inside_by i n false e = is_past e

inside_or_past : (i n : ℕ) → IsInside i n
inside_or_past i n = inside_by i n (nat_lt i n) refl

item_from_front : (vs : List Value) (i : ℕ) → item_at (pos i) vs ≡ slice_get vs i
item_from_front vs i = elim (inside_or_past i (length vs)) [
  | is_inside e ↦ ap (λ b. option_map_or (slice_get vs) (if b then Some i else None) None) e
  | is_past e ↦ ap (λ b. option_map_or (slice_get vs) (if b then Some i else None) None) e ∙ sym (slice_get_past vs i (past i (length vs) e))
]

no_item : (n : ℤ) → item_at n [] ≡ None
no_item (pos i) = item_from_front [] i ∙ slice_get_past [] i (omega arith)
no_item (negsuc i) = elim (inside_or_past i 0) [
  | is_inside e ↦ absurd (let none : i < 0 = inside i 0 e in omega arith)
  | is_past e ↦ ap (λ b. option_map_or (slice_get []) (if b then Some (0 - (i + 1)) else None) None) e
]

array_holds : (w : Value) (ws : List Value) (n : ℤ) (p : Value) → w ≡ array (items_of ws) → item_at n ws ≡ Some p → Holds w (number n) p
array_holds w ws n p e f = rw e (refl, ap (λ xs. Ok (unwrap_or (item_at n xs) null)) (values_of-items_of ws) ∙ ap (λ o. Ok (unwrap_or o null)) f)

item_holds : (n : ℤ) (p w : Value) (vs : List Value) → put_item n p vs ≡ Ok w → Holds w (number n) p
item_holds (pos i) p w vs e =
    let long : i + 1 ≤ length (filled (i + 1) vs) = filled_length (i + 1) vs in
    let set = slice_set (filled (i + 1) vs) i p in
    array_holds w set (pos i) p (ok_if_not (nat_lt greatest_index i) (string index_too_large) _ w e) (item_from_front set i ∙ get_set (filled (i + 1) vs) i p (omega arith))
item_holds (negsuc i) p w vs e =
    let put = put_there (place_of (length vs) (negsuc i)) (λ j. array (items_of (slice_set vs j p))) (string index_before_start) w e in
    let j = put.0 in
    let there = some_if (nat_lt i (length vs)) (length vs - (i + 1)) j put.1 in
    let lt : i < length vs = inside i (length vs) there.0 in
    let in_array : j < length vs = omega (arith, there.1) in
    let same_location : place_of (length (slice_set vs j p)) (negsuc i) ≡ Some j = ap (λ n. place_of n (negsuc i)) (length-set vs j p) ∙ put.1 in
    array_holds w (slice_set vs j p) (negsuc i) p put.2 (placed (negsuc i) (slice_set vs j p) j same_location ∙ get_set vs j p in_array)

object_holds : (w : Value) (s : List ℕ) (p : Value) (ms : Members) → w ≡ object (put s p ms) → Holds w (string s) p
object_holds w s p ms e = rw e (refl, ap (λ o. Ok (unwrap_or o null)) (found_put s p ms))

got_put : (v k p w : Value) → IsPlainKey k → put_at v k p ≡ Ok w → Holds w k p
got_put null (string s) p w h e = object_holds w s p no_members (cc)
got_put (object ms) (string s) p w h e = object_holds w s p (without s ms) (cc)
got_put v (string s) p w h e = absurd (cc)
got_put null (number n) p w h e = item_holds n p w [] e
got_put (array vs) (number n) p w h e = item_holds n p w (values_of vs) e
got_put v (number n) p w h e = absurd (cc)
got_put v k p w h e = absurd h

pub set_is_got : SetIsGot
set_is_got v x w [] h e = sym e
set_is_got v x w (k ∷ ks) h e =
    let a = both_gave (part_at v k) (λ part. and_then (setpath_of part ks x) (λ p. put_at v k p)) w e in
    let b = both_gave (setpath_of a.first ks x) (λ p. put_at v k p) w a.then_gave in
    let got = got_put v k b.first w h.0 b.then_gave in
    rw (got.0, got.1) (set_is_got a.first x b.first ks h.1 b.gave)

null_path : (ls : List Value) → getpath_of null ls ≡ Ok null
null_path [] = refl
null_path (l ∷ ls) = refl

-- the rest of a path applies to the part at the key
got_part : (v k part l : Value) (ls : List Value) → IsPlainKey k → part_at v k ≡ Ok part → getpath_of v (k ∷ l ∷ ls) ≡ getpath_of part (l ∷ ls)
got_part null (string s) part l ls h e = let none : null ≡ part = cc in ap (λ v. getpath_of v (l ∷ ls)) none
got_part null (number n) part l ls h e = let none : null ≡ part = cc in ap (λ v. getpath_of v (l ∷ ls)) none
got_part null k part l ls h e = absurd h
got_part v k part l ls h e = ap (λ r. and_then r (λ p. getpath_of p (l ∷ ls))) e

other_item : (i j : ℕ) (p : Value) (vs : List Value) → i ≢ j → unwrap_or (slice_get (slice_set (filled (i + 1) vs) i p) j) null ≡ unwrap_or (slice_get vs j) null
other_item i j p vs h = ap (λ o. unwrap_or o null) (get_set_other (filled (i + 1) vs) i j p h) ∙ get_more_nulls vs (i + 1 - length vs) j

array_other : (w : Value) (vs : List Value) (i j : ℕ) (p : Value) (ls : List Value) → i ≢ j → put_item (pos i) p vs ≡ Ok w → getpath_of w (number (pos j) ∷ ls) ≡ getpath_of (unwrap_or (item_at (pos j) vs) null) ls
array_other w vs i j p ls h e =
    let set = slice_set (filled (i + 1) vs) i p in
    let is = ok_if_not (nat_lt greatest_index i) (string index_too_large) (array (items_of set)) w e in
    let same = ap (λ o. unwrap_or o null) (item_from_front set j) ∙ other_item i j p vs h ∙ ap (λ o. unwrap_or o null) (sym (item_from_front vs j)) in
    rw is (ap (λ ws. getpath_of (unwrap_or (item_at (pos j) ws) null) ls) (values_of-items_of set) ∙ ap (λ v. getpath_of v ls) same)

-- another item from the end
from_end_other : (vs : List Value) (i j k : ℕ) (p : Value) → i ≢ j → place_of (length vs) (negsuc i) ≡ Some k → item_at (negsuc j) (slice_set vs k p) ≡ item_at (negsuc j) vs
from_end_other vs i j k p h e =
    let ws = slice_set vs k p in
    let there = some_if (nat_lt i (length vs)) (length vs - (i + 1)) k e in
    let lt : i < length vs = inside i (length vs) there.0 in
    ap (λ n. option_map_or (slice_get ws) (place_of n (negsuc j)) None) (length-set vs k p)
    ∙ elim (inside_or_past j (length vs)) [
      | is_inside f ↦
          let jt : j < length vs = inside j (length vs) f in
          let apart : k ≢ length vs - (j + 1) = λ same. h (omega (arith, there.1, same)) in
          ap (λ b. option_map_or (slice_get ws) (if b then Some (length vs - (j + 1)) else None) None) f
          ∙ get_set_other vs k (length vs - (j + 1)) p apart
          ∙ sym (ap (λ b. option_map_or (slice_get vs) (if b then Some (length vs - (j + 1)) else None) None) f)
      | is_past f ↦
          ap (λ b. option_map_or (slice_get ws) (if b then Some (length vs - (j + 1)) else None) None) f
          ∙ sym (ap (λ b. option_map_or (slice_get vs) (if b then Some (length vs - (j + 1)) else None) None) f)
    ]

negative_other : (w : Value) (vs : List Value) (i j : ℕ) (p : Value) (ls : List Value) → i ≢ j → put_item (negsuc i) p vs ≡ Ok w → getpath_of w (number (negsuc j) ∷ ls) ≡ getpath_of (unwrap_or (item_at (negsuc j) vs) null) ls
negative_other w vs i j p ls h e =
    let put = put_there (place_of (length vs) (negsuc i)) (λ k. array (items_of (slice_set vs k p))) (string index_before_start) w e in
    rw put.2 (ap (λ ws. getpath_of (unwrap_or (item_at (negsuc j) ws) null) ls) (values_of-items_of (slice_set vs put.0 p)) ∙ ap (λ o. getpath_of (unwrap_or o null) ls) (from_end_other vs i j put.0 p h put.1))

-- an empty array has nothing at any index
empty_path : (n : ℤ) (ls : List Value) → getpath_of (unwrap_or (item_at n []) null) ls ≡ Ok null
empty_path n ls = ap (λ o. getpath_of (unwrap_or o null) ls) (no_item n) ∙ null_path ls

object_other : (w : Value) (s t : List ℕ) (p : Value) (ms : Members) (ls : List Value) → s ≢ t → w ≡ object (put s p (without s ms)) → getpath_of w (string t ∷ ls) ≡ getpath_of (member_or_null t ms) ls
object_other w s t p ms ls h e =
    let apart : t ≢ s = λ same. h (sym same) in
    rw e (ap (λ o. getpath_of (unwrap_or o null) ls) (others_put t s p (without s ms) apart ∙ others_without t s ms apart))

other_part : (v k l p w : Value) (ls : List Value) → AreApart k l → put_at v k p ≡ Ok w → getpath_of w (l ∷ ls) ≡ getpath_of v (l ∷ ls)
other_part null (string s) (string t) p w ls h e = object_other w s t p no_members ls h (cc) ∙ null_path ls
other_part (object ms) (string s) (string t) p w ls h e = object_other w s t p ms ls h (cc)
other_part v (string s) (string t) p w ls h e = absurd (cc)
other_part null (number (pos i)) (number (pos j)) p w ls h e = array_other w [] i j p ls h e ∙ empty_path (pos j) ls
other_part (array vs) (number (pos i)) (number (pos j)) p w ls h e = array_other w (values_of vs) i j p ls h e
other_part v (number (pos i)) (number (pos j)) p w ls h e = absurd (cc)
other_part null (number (negsuc i)) (number (negsuc j)) p w ls h e = negative_other w [] i j p ls h e ∙ empty_path (negsuc j) ls
other_part (array vs) (number (negsuc i)) (number (negsuc j)) p w ls h e = negative_other w (values_of vs) i j p ls h e
other_part v (number (negsuc i)) (number (negsuc j)) p w ls h e = absurd (cc)
other_part v k l p w ls h e = absurd h

-- the rest of a path is not empty
rest_of : (v part : Value) (c l : Value) (path ls : List Value) → IsPlainKey c → part_at v c ≡ Ok part → getpath_of v (c ∷ (path ++ l ∷ ls)) ≡ getpath_of part (path ++ l ∷ ls)
rest_of v part c l [] ls h e = got_part v c part l ls h e
rest_of v part c l (k ∷ path) ls h e = got_part v c part k (path ++ l ∷ ls) h e

pub set_leaves_others : SetLeavesOthers
set_leaves_others v x w k l [] ks ls h apart e =
    let a = both_gave (part_at v k) (λ part. and_then (setpath_of part ks x) (λ p. put_at v k p)) w e in
    let b = both_gave (setpath_of a.first ks x) (λ p. put_at v k p) w a.then_gave in
    other_part v k l b.first w ls apart b.then_gave
set_leaves_others v x w k l (c ∷ path) ks ls h apart e =
    let a = both_gave (part_at v c) (λ part. and_then (setpath_of part (path ++ k ∷ ks) x) (λ p. put_at v c p)) w e in
    let b = both_gave (setpath_of a.first (path ++ k ∷ ks) x) (λ p. put_at v c p) w a.then_gave in
    let got = got_put v c b.first w h.0 b.then_gave in
    let after : getpath_of w (c ∷ (path ++ l ∷ ls)) ≡ getpath_of b.first (path ++ l ∷ ls) = rw (got.0, got.1) refl in
    after ∙ set_leaves_others a.first x b.first k l path ks ls h.1 apart b.gave ∙ sym (rest_of v a.first c l path ls h.0 a.gave)
