-- A stable sort by insertion, and why no other list is its result.
use Rattle.std.proofs.Common.{◌≡◌, ℕ, zero, suc, ◌+◌, ◌<◌, List, [], ◌∷◌, ◌++◌, length, map, get_or, Bool, true, false, cond, not, ◌&&◌, refl, sym, ap, ◌∙◌, subst, arith, add-one}
use Rattle.std.proofs.lemmas.List.Sorted.{sorted_far, IsPermutation-refl, IsPermutation-cons, IsPermutation-trans, IsPermutation-middle, ranks_by}
use Rattle.std.specs.Prelude.{⊤, filter, if◌then◌else◌}
use Rattle.std.specs.Cmp.{IsStrictWeakOrder}
use Rattle.std.specs.List.Sorted.{IsPermutation, IsSortedBy, IsStableBy, ties}
use Rattle.jv_data.proofs.shared.Order.{compare_total}
use Rattle.jq_natives.specs.Sorting.{Keyed, key, kept_item, below_key, put_by, sorted_by, sorted, last_of_group}
use Rattle.jq_natives.specs.laws.Sorting.{IsArranged}

-- no element of the list is below x
abbrev NoneBelow : {X : Type 0} → (X → X → Bool) → X → List X → Type 0
NoneBelow lt x [] = ⊤
NoneBelow lt x (y ∷ ys) = (lt y x ≡ false) × NoneBelow lt x ys

-- no element is below an earlier one
abbrev Rises : {X : Type 0} → (X → X → Bool) → List X → Type 0
Rises lt [] = ⊤
Rises lt (x ∷ xs) = NoneBelow lt x xs × Rises lt xs

pub true_or_false : (b : Bool) → b ≡ true → b ≡ false → ⊥
true_or_false true e f = cc
true_or_false false e f = cc

module _ {X : Type 0} (lt : X → X → Bool) (o : IsStrictWeakOrder lt) where
  -- ---- the two ways to say that a list is sorted

  none_below_from : (x : X) (ys : List X) → ((j : ℕ) (d : X) → j < length ys → lt (get_or ys j d) x ≡ false) → NoneBelow lt x ys
  none_below_from x [] h = tt
  none_below_from x (y ∷ ys) h = (h 0 x (omega arith), none_below_from x ys (λ j d b. h (suc j) d (omega arith)))

  sorted_tail : (x : X) (xs : List X) → IsSortedBy lt (x ∷ xs) → IsSortedBy lt xs
  sorted_tail x xs up = λ k d low high.
      let e : suc k + 1 ≡ suc (k + 1) = omega arith in
      subst (λ (n : ℕ). lt (get_or (x ∷ xs) n d) (get_or xs k d) ≡ false) e (up (suc k) d (omega arith) (omega arith))

  rises_from : (xs : List X) → IsSortedBy lt xs → Rises lt xs
  rises_from [] up = tt
  rises_from (x ∷ xs) up =
      (none_below_from x xs (λ j d b. sorted_far lt o (x ∷ xs) up 0 (suc j) d (omega arith) (omega arith)), rises_from xs (sorted_tail x xs up))

  adjacent : (xs : List X) → Rises lt xs → (k : ℕ) (d : X) → k + 1 < length xs → lt (get_or xs (suc k) d) (get_or xs k d) ≡ false
  adjacent [] h k d b = absurd (omega arith)
  adjacent (x ∷ []) h k d b = absurd (omega arith)
  adjacent (x ∷ y ∷ ys) h zero d b = h.0.0
  adjacent (x ∷ y ∷ ys) h (suc k) d b = adjacent (y ∷ ys) h.1 k d (omega arith)

  sorted_from : (xs : List X) → Rises lt xs → IsSortedBy lt xs
  sorted_from xs h = λ k d low high. rw add-one (adjacent xs h k d high)

  -- ---- insertion

  none_below_chain : (x y : X) (ys : List X) → lt y x ≡ false → NoneBelow lt y ys → NoneBelow lt x ys
  none_below_chain x y [] e h = tt
  none_below_chain x y (z ∷ zs) e h = (o.chain z y x h.0 e, none_below_chain x y zs e h.1)

  put_none_below : (z x : X) (ys : List X) → lt x z ≡ false → NoneBelow lt z ys → NoneBelow lt z (put_by lt x ys)
  put_none_below z x [] e h = (e, tt)
  put_none_below z x (y ∷ ys) e h = go (put_none_below z x ys e h.1) (lt y x)
    where
      go : NoneBelow lt z (put_by lt x ys) → (b : Bool) → NoneBelow lt z (if b then y ∷ put_by lt x ys else x ∷ y ∷ ys)
      go later true = (h.0, later)
      go later false = (e, h)

  put_rises : (x : X) (ys : List X) → Rises lt ys → Rises lt (put_by lt x ys)
  put_rises x [] h = (tt, tt)
  put_rises x (y ∷ ys) h = go (put_rises x ys h.1) (lt y x) refl
    where
      go : Rises lt (put_by lt x ys) → (b : Bool) → lt y x ≡ b → Rises lt (if b then y ∷ put_by lt x ys else x ∷ y ∷ ys)
      go later true e = (put_none_below y x ys (o.one_way y x e) h.0, later)
      go later false e = ((e, none_below_chain x y ys e h.0), h)

  sorted_rises : (xs : List X) → Rises lt (sorted_by lt xs)
  sorted_rises [] = tt
  sorted_rises (x ∷ xs) = put_rises x (sorted_by lt xs) (sorted_rises xs)

  put_permutes : (x : X) (ys : List X) → IsPermutation (x ∷ ys) (put_by lt x ys)
  put_permutes x [] = IsPermutation-refl (x ∷ [])
  put_permutes x (y ∷ ys) = go (put_permutes x ys) (lt y x)
    where
      go : IsPermutation (x ∷ ys) (put_by lt x ys) → (b : Bool) → IsPermutation (x ∷ y ∷ ys) (if b then y ∷ put_by lt x ys else x ∷ y ∷ ys)
      go later true = IsPermutation-trans (x ∷ y ∷ ys) (y ∷ x ∷ ys) (y ∷ put_by lt x ys) (IsPermutation-middle (x ∷ []) y ys) (IsPermutation-cons y (x ∷ ys) (put_by lt x ys) later)
      go later false = IsPermutation-refl (x ∷ y ∷ ys)

  sorted_permutes : (xs : List X) → IsPermutation xs (sorted_by lt xs)
  sorted_permutes [] = IsPermutation-refl []
  sorted_permutes (x ∷ xs) =
      IsPermutation-trans (x ∷ xs) (x ∷ sorted_by lt xs) (sorted_by lt (x ∷ xs)) (IsPermutation-cons x xs (sorted_by lt xs) (sorted_permutes xs)) (put_permutes x (sorted_by lt xs))

  -- ---- elements that tie

  unlike_is : (s t : Bool) → (not s && not t) ≡ true → (s ≡ false) × (t ≡ false)
  unlike_is true t e = cc
  unlike_is false true e = cc
  unlike_is false false e = (refl, refl)

  tied_apart : (z x y : X) → lt y x ≡ true → ties lt z x ≡ true → ties lt z y ≡ true → ⊥
  tied_apart z x y e f g =
      true_or_false (lt y x) e (o.chain y z x (unlike_is (lt z y) (lt y z) g).1 (unlike_is (lt z x) (lt x z) f).0)

  filter_swap : (p : X → Bool) (x y : X) (zs : List X) → (p x ≡ true → p y ≡ true → ⊥) → filter p (y ∷ x ∷ zs) ≡ filter p (x ∷ y ∷ zs)
  filter_swap p x y zs apart = go (p x) (p y) refl refl
    where
      go : (a b : Bool) → p x ≡ a → p y ≡ b → cond b (y ∷ cond a (x ∷ filter p zs) (filter p zs)) (cond a (x ∷ filter p zs) (filter p zs)) ≡ cond a (x ∷ cond b (y ∷ filter p zs) (filter p zs)) (cond b (y ∷ filter p zs) (filter p zs))
      go true true e f = absurd (apart e f)
      go true false e f = refl
      go false true e f = refl
      go false false e f = refl

  filter_cons : (p : X → Bool) (y : X) (xs ys : List X) → filter p xs ≡ filter p ys → filter p (y ∷ xs) ≡ filter p (y ∷ ys)
  filter_cons p y xs ys e = ap (λ zs. cond (p y) (y ∷ zs) zs) e

  put_stable : (z x : X) (ys : List X) → filter (ties lt z) (put_by lt x ys) ≡ filter (ties lt z) (x ∷ ys)
  put_stable z x [] = refl
  put_stable z x (y ∷ ys) = go (put_stable z x ys) (lt y x) refl
    where
      go : filter (ties lt z) (put_by lt x ys) ≡ filter (ties lt z) (x ∷ ys) → (b : Bool) → lt y x ≡ b → filter (ties lt z) (if b then y ∷ put_by lt x ys else x ∷ y ∷ ys) ≡ filter (ties lt z) (x ∷ y ∷ ys)
      go later true e = filter_cons (ties lt z) y (put_by lt x ys) (x ∷ ys) later ∙ filter_swap (ties lt z) x y ys (tied_apart z x y e)
      go later false e = refl

  sorted_stable : (z : X) (xs : List X) → filter (ties lt z) (sorted_by lt xs) ≡ filter (ties lt z) xs
  sorted_stable z [] = refl
  sorted_stable z (x ∷ xs) = put_stable z x (sorted_by lt xs) ∙ filter_cons (ties lt z) x (sorted_by lt xs) xs (sorted_stable z xs)

  -- ---- there is one such list

  not_below_itself : (x : X) → lt x x ≡ false
  not_below_itself x = go (lt x x) refl
    where
      go : (b : Bool) → lt x x ≡ b → b ≡ false
      go true e = absurd (true_or_false (lt x x) e (o.one_way x x e))
      go false e = refl

  ties_are : (x y : X) → lt x y ≡ false → lt y x ≡ false → ties lt x y ≡ true
  ties_are x y e f = rw (e, f) refl

  ties_itself : (x : X) → ties lt x x ≡ true
  ties_itself x = rw (not_below_itself x) refl

  filter_kept : (p : X → Bool) (x : X) (xs : List X) → p x ≡ true → filter p (x ∷ xs) ≡ x ∷ filter p xs
  filter_kept p x xs e = rw e refl

  least_of : (x y : X) (ys : List X) (a : X) (as' : List X) → NoneBelow lt y ys → filter (ties lt x) ys ≡ a ∷ as' → lt x y ≡ false
  least_of x y [] a as' h e = cc
  least_of x y (z ∷ zs) a as' h e = go (least_of x y zs a as' h.1) (ties lt x z) refl e
    where
      go : (filter (ties lt x) zs ≡ a ∷ as' → lt x y ≡ false) → (b : Bool) → ties lt x z ≡ b → cond b (z ∷ filter (ties lt x) zs) (filter (ties lt x) zs) ≡ a ∷ as' → lt x y ≡ false
      go later true f g = o.chain x z y (unlike_is (lt x z) (lt z x) f).0 h.0
      go later false f g = later g

  least : (x y : X) (ys : List X) (a : X) (as' : List X) → NoneBelow lt y ys → filter (ties lt x) (y ∷ ys) ≡ a ∷ as' → lt x y ≡ false
  least x y ys a as' h e = go (ties lt x y) refl e
    where
      go : (b : Bool) → ties lt x y ≡ b → cond b (y ∷ filter (ties lt x) ys) (filter (ties lt x) ys) ≡ a ∷ as' → lt x y ≡ false
      go true f g = (unlike_is (lt x y) (lt y x) f).0
      go false f g = least_of x y ys a as' h g

  tail_of : (p : X → Bool) (x : X) (xs ys : List X) → filter p (x ∷ xs) ≡ filter p (x ∷ ys) → filter p xs ≡ filter p ys
  tail_of p x xs ys e = go (p x) e
    where
      go : (b : Bool) → cond b (x ∷ filter p xs) (filter p xs) ≡ cond b (x ∷ filter p ys) (filter p ys) → filter p xs ≡ filter p ys
      go true f = cc
      go false f = f

  only_one : (xs ys : List X) → Rises lt xs → Rises lt ys → ((z : X) → filter (ties lt z) xs ≡ filter (ties lt z) ys) → xs ≡ ys
  only_one [] [] h k same = refl
  only_one [] (y ∷ ys) h k same = let e : [] ≡ y ∷ filter (ties lt y) ys = same y ∙ filter_kept (ties lt y) y ys (ties_itself y) in cc
  only_one (x ∷ xs) [] h k same = let e : x ∷ filter (ties lt x) xs ≡ [] = sym (filter_kept (ties lt x) x xs (ties_itself x)) ∙ same x in cc
  only_one (x ∷ xs) (y ∷ ys) h k same =
      let below_x : lt x y ≡ false = least x y ys x (filter (ties lt x) xs) k.0 (sym (same x) ∙ filter_kept (ties lt x) x xs (ties_itself x)) in
      let below_y : lt y x ≡ false = least y x xs y (filter (ties lt y) ys) h.0 (same y ∙ filter_kept (ties lt y) y ys (ties_itself y)) in
      let heads : x ∷ filter (ties lt x) xs ≡ y ∷ filter (ties lt x) ys = sym (filter_kept (ties lt x) x xs (ties_itself x)) ∙ same x ∙ filter_kept (ties lt x) y ys (ties_are x y below_x below_y) in
      let first : x ≡ y = cc in
      let rests : xs ≡ ys = only_one xs ys h.1 k.1 (λ z. tail_of (ties lt z) x xs ys (same z ∙ ap (λ w. filter (ties lt z) (w ∷ ys)) (sym first))) in
      cc

  -- the result of a stable sort
  pub sorted_by_is : (xs ys : List X) → IsSortedBy lt ys → IsStableBy lt xs ys → ys ≡ sorted_by lt xs
  sorted_by_is xs ys up stable = only_one ys (sorted_by lt xs) (rises_from ys up) (sorted_rises xs) (λ z. stable z ∙ sym (sorted_stable z xs))

-- ---- lists to which a function is applied

map_put : {X Y : Type 0} (f : X → Y) (lt : Y → Y → Bool) (x : X) (ys : List X) → map f (put_by (λ v w. lt (f v) (f w)) x ys) ≡ put_by lt (f x) (map f ys)
map_put f lt x [] = refl
map_put {X} f lt x (y ∷ ys) = go (map_put f lt x ys) (lt (f y) (f x))
  where
    below : X → X → Bool
    below v w = lt (f v) (f w)

    go : map f (put_by below x ys) ≡ put_by lt (f x) (map f ys) → (b : Bool) → map f (if b then y ∷ put_by below x ys else x ∷ y ∷ ys) ≡ (if b then f y ∷ put_by lt (f x) (map f ys) else f x ∷ f y ∷ map f ys)
    go h true = ap (λ zs. f y ∷ zs) h
    go h false = refl

pub map_sorted : {X Y : Type 0} (f : X → Y) (lt : Y → Y → Bool) (xs : List X) → map f (sorted_by (λ v w. lt (f v) (f w)) xs) ≡ sorted_by lt (map f xs)
map_sorted f lt [] = refl
map_sorted f lt (x ∷ xs) = map_put f lt x (sorted_by (λ v w. lt (f v) (f w)) xs) ∙ ap (put_by lt (f x)) (map_sorted f lt xs)

-- ---- pairs by their keys

keyed_order : IsStrictWeakOrder below_key
keyed_order = ranks_by compare_total key

pub sorted-arranged : (ps : List Keyed) → IsArranged ps (sorted ps)
sorted-arranged ps = record {
  same_items = sorted_permutes below_key keyed_order ps;
  ordered = sorted_from below_key keyed_order (sorted ps) (sorted_rises below_key keyed_order ps);
  stable = λ z. sorted_stable below_key keyed_order z ps;
}

pub arranged-sorted : (ps qs : List Keyed) → IsArranged ps qs → qs ≡ sorted ps
arranged-sorted ps qs h =
    only_one below_key keyed_order qs (sorted ps) (rises_from below_key keyed_order qs h.ordered) (sorted_rises below_key keyed_order ps)
    (λ z. h.stable z ∙ sym (sorted_stable below_key keyed_order z ps))

pub last_of_more : (ps : List Keyed) (p : Keyed) → last_of_group (ps ++ p ∷ []) ≡ kept_item p
last_of_more [] p = refl
last_of_more (q ∷ []) p = refl
last_of_more (q ∷ r ∷ ps) p = last_of_more (r ∷ ps) p
