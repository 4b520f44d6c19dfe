-- Lists in order: a list and its elements in another order come out the same when they are put in order.
use Rattle.std.proofs.Common.{◌≡◌, ◌∙◌, ◌+◌, ◌<◌, ℕ, suc, List, [], ◌∷◌, length, map, Bool, true, false, if◌then◌else◌, ap, sym, refl, Ordering, Less, Equal, Greater, get_or, sum_by, fold, Vec, Global, arith}
use Rattle.std.proofs.lemmas.Cmp.{lists_total, tied_itself}
use Rattle.std.proofs.lemmas.List.Sorted.{IsPermutation-map, sum_by-IsPermutation}
use Rattle.std.specs.Bool.{⊤}
use Rattle.std.specs.Cmp.{IsTotalOrder}
use Rattle.std.specs.Cmp.Lexicographic.{slice_cmp}
use Rattle.std.specs.List.Sorted.{IsPermutation}
use Rattle.std.specs.Ordering.{is_eq, is_gt, is_lt, ordering_reverse, ordering_then}
use Rattle.jv_data.proofs.shared.Order.{is_less, is_equal, is_greater, compared, ties, compare_total, tied}
use Rattle.jv_data.specs.Value.{Value, compare}
use Rattle.jv_data.specs.View.{view}
use Rattle.jv_data.specs.declared.values.Val.{Val}
use Rattle.jv_value.specs.DeletePaths.{in_order, put_in_order}
use Rattle.jv_value.specs.DeletePaths.{paths_in}

-- the sum of f over a list
abbrev total_of : {X : Type 0} → (X → ℕ) → List X → ℕ
total_of f [] = 0
total_of f (x ∷ xs) = f x + total_of f xs

fold_total : {X : Type 0} (f : X → ℕ) (n : ℕ) (xs : List X) → fold (λ a x. a + f x) n xs ≡ n + total_of f xs
fold_total f n [] = omega arith
fold_total f n (x ∷ xs) = let h = fold_total f (n + f x) xs in omega arith

sum_total : {X : Type 0} (f : X → ℕ) (xs : List X) → sum_by f xs ≡ total_of f xs
sum_total f xs = let h = fold_total f 0 xs in omega arith

-- an order whose ties are equal
record IsOrder {X : Type 0} (R : X → X → Ordering) : Type 0 where
  pub total : IsTotalOrder R
  pub tie : (x y : X) → R x y ≡ Equal → x ≡ y

-- x is above none of them
abbrev IsBelow : {X : Type 0} → (X → X → Ordering) → X → List X → Type 0
IsBelow R x [] = ⊤
IsBelow R x (y ∷ ys) = (is_gt (R x y) ≡ false) × IsBelow R x ys

abbrev Ascends : {X : Type 0} → (X → X → Ordering) → List X → Type 0
Ascends R [] = ⊤
Ascends R (x ∷ xs) = IsBelow R x xs × Ascends R xs

le_trans : {X : Type 0} (R : X → X → Ordering) → IsOrder R → (x y z : X) → is_gt (R x y) ≡ false → is_gt (R y z) ≡ false → is_gt (R x z) ≡ false
le_trans R o x y z e f = elim (compared (R x y)) [
  | is_less a ↦ elim (compared (R y z)) [
    | is_less b ↦ ap is_gt (o.total.trans x y z a b)
    | is_equal b ↦ ap (λ w. is_gt (R x w)) (sym (o.tie y z b)) ∙ e
    | is_greater b ↦ absurd (let no : is_gt (R y z) ≡ true = ap is_gt b in let bad : true ≡ false = sym no ∙ f in cc)
  ]
  | is_equal a ↦ ap (λ w. is_gt (R w z)) (o.tie x y a) ∙ f
  | is_greater a ↦ absurd (let no : is_gt (R x y) ≡ true = ap is_gt a in let bad : true ≡ false = sym no ∙ e in cc)
]

lt_le : {X : Type 0} (R : X → X → Ordering) → IsOrder R → (x y z : X) → R x y ≡ Less → is_gt (R y z) ≡ false → R x z ≡ Less
lt_le R o x y z a f = elim (compared (R y z)) [
  | is_less b ↦ o.total.trans x y z a b
  | is_equal b ↦ ap (R x) (sym (o.tie y z b)) ∙ a
  | is_greater b ↦ absurd (let no : is_gt (R y z) ≡ true = ap is_gt b in let bad : true ≡ false = sym no ∙ f in cc)
]

below_more : {X : Type 0} (R : X → X → Ordering) → IsOrder R → (x y : X) (zs : List X) → is_gt (R x y) ≡ false → IsBelow R y zs → IsBelow R x zs
below_more R o x y [] e h = tt
below_more R o x y (z ∷ zs) e h = (le_trans R o x y z e h.0, below_more R o x y zs e h.1)

-- 1 for a value equal to x
abbrev is_it : {X : Type 0} → (X → X → Ordering) → X → X → ℕ
is_it R x z = if is_eq (R x z) then 1 else 0

none_is : {X : Type 0} (R : X → X → Ordering) → IsOrder R → (x y : X) (zs : List X) → R x y ≡ Less → IsBelow R y zs → total_of (is_it R x) zs ≡ 0
none_is R o x y [] e h = refl
none_is R o x y (z ∷ zs) e h =
    let rest = none_is R o x y zs e h.1 in
    let here : is_it R x z ≡ 0 = ap (λ p. if is_eq p then 1 else 0) (lt_le R o x y z e h.0) in
    omega arith

one_is : {X : Type 0} (R : X → X → Ordering) → IsOrder R → (x : X) → is_it R x x ≡ 1
one_is R o x = ap (λ p. if is_eq p then 1 else 0) (tied_itself o.total x)

-- two lists in order with the same elements are the same
same_sorted : {X : Type 0} (R : X → X → Ordering) → IsOrder R → (xs ys : List X) → Ascends R xs → Ascends R ys → ((f : X → ℕ) → total_of f xs ≡ total_of f ys) → xs ≡ ys
same_sorted {X} R o [] [] a b h = refl
same_sorted {X} R o [] (y ∷ ys) a b h = absurd (let no : total_of (λ (z : X). 1) [] ≡ total_of (λ (z : X). 1) (y ∷ ys) = h (λ z. 1) in omega arith)
same_sorted {X} R o (x ∷ xs) [] a b h = absurd (let no : total_of (λ (z : X). 1) (x ∷ xs) ≡ total_of (λ (z : X). 1) [] = h (λ z. 1) in omega arith)
same_sorted {X} R o (x ∷ xs) (y ∷ ys) a b h = elim (compared (R x y)) [
  | is_less e ↦ absurd (
      let all : total_of (is_it R x) (x ∷ xs) ≡ total_of (is_it R x) (y ∷ ys) = h (is_it R x) in
      let one : is_it R x x ≡ 1 = one_is R o x in
      let here : is_it R x y ≡ 0 = ap (λ p. if is_eq p then 1 else 0) e in
      let rest : total_of (is_it R x) ys ≡ 0 = none_is R o x y ys e b.0 in
      omega arith)
  | is_equal e ↦
      let same : x ≡ y = o.tie x y e in
      let rest : xs ≡ ys = same_sorted R o xs ys a.1 b.1 (λ f. let all : f x + total_of f xs ≡ f y + total_of f ys = h f in let first : f x ≡ f y = ap f same in omega arith) in
      cc
  | is_greater e ↦ absurd (
      let back : R y x ≡ Less = o.total.antisymm y x ∙ ap ordering_reverse e in
      let all : total_of (is_it R y) (x ∷ xs) ≡ total_of (is_it R y) (y ∷ ys) = h (is_it R y) in
      let one : is_it R y y ≡ 1 = one_is R o y in
      let here : is_it R y x ≡ 0 = ap (λ p. if is_eq p then 1 else 0) back in
      let rest : total_of (is_it R y) xs ≡ 0 = none_is R o y x xs back a.0 in
      omega arith)
]

lists_tied : (xs ys : List Value) → slice_cmp compare xs ys ≡ Equal → xs ≡ ys
lists_tied [] [] e = refl
lists_tied [] (y ∷ ys) e = absurd (cc)
lists_tied (x ∷ xs) [] e = absurd (cc)
lists_tied (x ∷ xs) (y ∷ ys) e =
    let both = ties (compare x y) (slice_cmp compare xs ys) e in
    let first : x ≡ y = tied x y both.0 in
    let rest : xs ≡ ys = lists_tied xs ys both.1 in
    cc

path_order : IsOrder (slice_cmp compare)
path_order = record { total = lists_total compare_total; tie = lists_tied }

not_less : (o p : Ordering) → o ≡ ordering_reverse p → is_lt p ≡ false → is_gt o ≡ false
not_less o Less e f = absurd (cc)
not_less o Equal e f = ap is_gt e
not_less o Greater e f = ap is_gt e

greater_back : (o p : Ordering) → o ≡ ordering_reverse p → is_gt p ≡ true → is_gt o ≡ false
greater_back o Less e f = absurd (cc)
greater_back o Equal e f = absurd (cc)
greater_back o Greater e f = ap is_gt e

abbrev cmp_paths : List Value → List Value → Ordering
cmp_paths = slice_cmp compare

below_put_at : (q p r : List Value) (ps qs : List (List Value)) (b : Bool) → is_gt (cmp_paths q p) ≡ false → IsBelow cmp_paths q (r ∷ ps) → IsBelow cmp_paths q qs → IsBelow cmp_paths q (if b then r ∷ qs else (p ∷ r ∷ ps))
below_put_at q p r ps qs true e h g = (h.0, g)
below_put_at q p r ps qs false e h g = (e, h)

below_put : (q p : List Value) (ps : List (List Value)) → is_gt (cmp_paths q p) ≡ false → IsBelow cmp_paths q ps → IsBelow cmp_paths q (put_in_order p ps)
below_put q p [] e h = (e, tt)
below_put q p (r ∷ ps) e h = below_put_at q p r ps (put_in_order p ps) (is_gt (cmp_paths p r)) e h (below_put q p ps e h.1)

ascends_put_at : (p r : List Value) (ps : List (List Value)) (b : Bool) → is_gt (cmp_paths p r) ≡ b → Ascends cmp_paths (r ∷ ps) → Ascends cmp_paths (put_in_order p ps) → Ascends cmp_paths (if b then r ∷ put_in_order p ps else (p ∷ r ∷ ps))
ascends_put_at p r ps true e h g = (below_put r p ps (greater_back (cmp_paths r p) (cmp_paths p r) (path_order.total.antisymm r p) e) h.0, g)
ascends_put_at p r ps false e h g = ((e, below_more cmp_paths path_order p r ps e h.0), h)

ascends_put : (p : List Value) (ps : List (List Value)) → Ascends cmp_paths ps → Ascends cmp_paths (put_in_order p ps)
ascends_put p [] h = (tt, tt)
ascends_put p (r ∷ ps) h = ascends_put_at p r ps (is_gt (cmp_paths p r)) refl h (ascends_put p ps h.1)

ascends_in_order : (ps : List (List Value)) → Ascends cmp_paths (in_order ps)
ascends_in_order [] = tt
ascends_in_order (p ∷ ps) = ascends_put p (in_order ps) (ascends_in_order ps)

sum_put_at : (f : List Value → ℕ) (p r : List Value) (ps : List (List Value)) (b : Bool) → total_of f (put_in_order p ps) ≡ f p + total_of f ps → total_of f (if b then r ∷ put_in_order p ps else (p ∷ r ∷ ps)) ≡ f p + (f r + total_of f ps)
sum_put_at f p r ps true h = omega arith
sum_put_at f p r ps false h = refl

sum_put : (f : List Value → ℕ) (p : List Value) (ps : List (List Value)) → total_of f (put_in_order p ps) ≡ f p + total_of f ps
sum_put f p [] = refl
sum_put f p (r ∷ ps) = sum_put_at f p r ps (is_gt (cmp_paths p r)) (sum_put f p ps)

sum_in_order : (f : List Value → ℕ) (ps : List (List Value)) → total_of f (in_order ps) ≡ total_of f ps
sum_in_order f [] = refl
sum_in_order f (p ∷ ps) = sum_put f p (in_order ps) ∙ ap (λ n. f p + n) (sum_in_order f ps)

-- the order of two paths is that of their views
cmp_views : (xs ys : List Val) → slice_cmp (λ v w. compare (view v) (view w)) xs ys ≡ slice_cmp compare (map view xs) (map view ys)
cmp_views [] [] = refl
cmp_views [] (y ∷ ys) = refl
cmp_views (x ∷ xs) [] = refl
cmp_views (x ∷ xs) (y ∷ ys) = ap (ordering_then (compare (view x) (view y))) (cmp_views xs ys)

abbrev vec_cmp : Vec Val Global → Vec Val Global → Ordering
vec_cmp p q = slice_cmp (λ v w. compare (view v) (view w)) p.items q.items

-- each is not below the one before it
abbrev pub IsUp : List (Vec Val Global) → Type 0
IsUp ps = (k : ℕ) (d : Vec Val Global) → k + 1 < length ps → is_lt (vec_cmp (get_or ps (k + 1) d) (get_or ps k d)) ≡ false

up_rest : (p : Vec Val Global) (ps : List (Vec Val Global)) → IsUp (p ∷ ps) → IsUp ps
up_rest p ps h = λ k d inside.
    let e : k + 1 + 1 ≡ suc (k + 1) = omega arith in
    let f : k + 1 ≡ suc k = omega arith in
    ap (λ n. is_lt (vec_cmp (get_or (p ∷ ps) n d) (get_or ps k d))) (sym e)
    ∙ ap (λ n. is_lt (vec_cmp (get_or (p ∷ ps) (k + 1 + 1) d) (get_or (p ∷ ps) n d))) (sym f) ∙ h (k + 1) d (omega arith)

ascends_after : (p : Vec Val Global) (ps : List (Vec Val Global)) → IsUp (p ∷ ps) → Ascends cmp_paths (map view p.items ∷ paths_in ps)
ascends_after p [] h = (tt, tt)
ascends_after p (q ∷ ps) h =
    let rest = ascends_after q ps (up_rest p (q ∷ ps) h) in
    let first : is_lt (vec_cmp q p) ≡ false = h 0 p (omega arith) in
    let not_below : is_gt (cmp_paths (map view p.items) (map view q.items)) ≡ false =
    not_less (cmp_paths (map view p.items) (map view q.items)) (cmp_paths (map view q.items) (map view p.items)) (path_order.total.antisymm (map view p.items) (map view q.items)) (ap is_lt (sym (cmp_views q.items p.items)) ∙ first) in
    ((not_below, below_more cmp_paths path_order (map view p.items) (map view q.items) (paths_in ps) not_below rest.0), rest)

ascends_from : (ps : List (Vec Val Global)) → IsUp ps → Ascends cmp_paths (paths_in ps)
ascends_from [] h = tt
ascends_from (p ∷ ps) h = ascends_after p ps h

-- the result of a sort is the paths in order
pub sorted_paths : (ps qs : List (Vec Val Global)) → IsPermutation ps qs → IsUp qs → in_order (paths_in ps) ≡ paths_in qs
sorted_paths ps qs moved up =
    same_sorted cmp_paths path_order (in_order (paths_in ps)) (paths_in qs) (ascends_in_order (paths_in ps)) (ascends_from qs up)
    (λ f. sum_in_order f (paths_in ps) ∙ sym (sum_total f (paths_in ps)) ∙ sym (sum_by-IsPermutation f (paths_in ps) (paths_in qs) (IsPermutation-map (λ p. map view p.items) ps qs moved)) ∙ sum_total f (paths_in qs))

-- the order in which they come makes no difference
pub same_in_order : (ps qs : List (List Value)) → IsPermutation ps qs → in_order ps ≡ in_order qs
same_in_order ps qs moved =
    same_sorted cmp_paths path_order (in_order ps) (in_order qs) (ascends_in_order ps) (ascends_in_order qs)
    (λ f. sum_in_order f ps ∙ sym (sum_total f ps) ∙ sym (sum_by-IsPermutation f ps qs moved) ∙ sum_total f qs ∙ sym (sum_in_order f qs))
