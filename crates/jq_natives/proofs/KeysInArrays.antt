-- Keys that are each in an array: they sort, group and choose the same items.
use Rattle.std.proofs.Common.{◌≡◌, ◌∙◌, inl, inr, List, [], ◌∷◌, Bool, true, false, Ordering, Less, Equal, Greater, map, refl, ap, zip}
use Rattle.std.specs.Prelude.{if◌then◌else◌}
use Rattle.std.specs.Ordering.{is_eq, is_lt, ordering_then}
use Rattle.jv_data.specs.Value.{Value, array, items_of, compare}
use Rattle.jq_natives.specs.Answers.{is_same}
use Rattle.jq_natives.specs.private.SortedItems.{AreKeysOf, IgnoresArrays, in_array, key_in_array}
use Rattle.jq_natives.specs.Sorting.{Keyed, key, kept_item, below_key, put_by, sorted, join_group, groups, array_of, first_of_group, last_of_group}

then_equal : (o : Ordering) → ordering_then o Equal ≡ o
then_equal Less = refl
then_equal Equal = refl
then_equal Greater = refl

-- the order of two arrays of one item is that of the items
pub compare_in_arrays : (v w : Value) → compare (in_array v) (in_array w) ≡ compare v w
compare_in_arrays v w = then_equal (compare v w)

below_in_arrays : (p q : Keyed) → below_key (key_in_array p) (key_in_array q) ≡ below_key p q
below_in_arrays p q = ap is_lt (compare_in_arrays (key p) (key q))

put_in_arrays : (p : Keyed) (ps : List Keyed) → put_by below_key (key_in_array p) (map key_in_array ps) ≡ map key_in_array (put_by below_key p ps)
put_in_arrays p [] = refl
put_in_arrays p (q ∷ qs) = ap pick (below_in_arrays q p) ∙ go (put_in_arrays p qs) (below_key q p)
  where
    pick : Bool → List Keyed
    pick b = if b then key_in_array q ∷ put_by below_key (key_in_array p) (map key_in_array qs) else key_in_array p ∷ key_in_array q ∷ map key_in_array qs

    go : put_by below_key (key_in_array p) (map key_in_array qs) ≡ map key_in_array (put_by below_key p qs) → (b : Bool) → pick b ≡ map key_in_array (if b then q ∷ put_by below_key p qs else p ∷ q ∷ qs)
    go h true = ap (λ rs. key_in_array q ∷ rs) h
    go h false = refl

sorted_in_arrays : (ps : List Keyed) → sorted (map key_in_array ps) ≡ map key_in_array (sorted ps)
sorted_in_arrays [] = refl
sorted_in_arrays (p ∷ ps) = ap (put_by below_key (key_in_array p)) (sorted_in_arrays ps) ∙ put_in_arrays p (sorted ps)

pub sorted_ignores : (f : List Keyed → Value) → IgnoresArrays f → IgnoresArrays (λ ps. f (sorted ps))
sorted_ignores f h = λ ps. ap f (sorted_in_arrays ps) ∙ h (sorted ps)

-- ---- what is made of the sorted items

items_in_arrays : (ps : List Keyed) → map kept_item (map key_in_array ps) ≡ map kept_item ps
items_in_arrays [] = refl
items_in_arrays (p ∷ ps) = ap (λ vs. kept_item p ∷ vs) (items_in_arrays ps)

pub array_of_ignores : IgnoresArrays array_of
array_of_ignores = λ ps. ap (λ vs. array (items_of vs)) (items_in_arrays ps)

pub first_ignores : IgnoresArrays first_of_group
first_ignores [] = refl
first_ignores (p ∷ ps) = refl

pub last_ignores : IgnoresArrays last_of_group
last_ignores [] = refl
last_ignores (p ∷ []) = refl
last_ignores (p ∷ q ∷ ps) = last_ignores (q ∷ ps)

join_in_arrays : (p : Keyed) (gs : List (List Keyed)) → join_group (key_in_array p) (map (map key_in_array) gs) ≡ map (map key_in_array) (join_group p gs)
join_in_arrays p [] = refl
join_in_arrays p ([] ∷ gs) = refl
join_in_arrays p ((q ∷ qs) ∷ gs) = ap pick same ∙ go (is_same (key p) (key q))
  where
    same : is_same (in_array (key p)) (in_array (key q)) ≡ is_same (key p) (key q)
    same = ap is_eq (compare_in_arrays (key p) (key q))

    pick : Bool → List (List Keyed)
    pick b = if b then (key_in_array p ∷ key_in_array q ∷ map key_in_array qs) ∷ map (map key_in_array) gs else (key_in_array p ∷ []) ∷ (key_in_array q ∷ map key_in_array qs) ∷ map (map key_in_array) gs

    go : (b : Bool) → pick b ≡ map (map key_in_array) (if b then (p ∷ q ∷ qs) ∷ gs else (p ∷ []) ∷ (q ∷ qs) ∷ gs)
    go true = refl
    go false = refl

groups_in_arrays : (ps : List Keyed) → groups (map key_in_array ps) ≡ map (map key_in_array) (groups ps)
groups_in_arrays [] = refl
groups_in_arrays (p ∷ ps) = ap (join_group (key_in_array p)) (groups_in_arrays ps) ∙ join_in_arrays p (groups ps)

each_ignores : (f : List Keyed → Value) → IgnoresArrays f → (gs : List (List Keyed)) → map f (map (map key_in_array) gs) ≡ map f gs
each_ignores f h [] = refl
each_ignores f h (g ∷ gs) = ap (λ v. v ∷ map f (map (map key_in_array) gs)) (h g) ∙ ap (λ vs. f g ∷ vs) (each_ignores f h gs)

pub groups_ignore : (f : List Keyed → Value) → IgnoresArrays f → IgnoresArrays (λ ps. array (items_of (map f (groups ps))))
groups_ignore f h = λ ps. ap (λ gs. array (items_of (map f gs))) (groups_in_arrays ps) ∙ ap (λ vs. array (items_of vs)) (each_ignores f h (groups ps))

-- ---- pairs

pub zip_in_arrays : (ks vs : List Value) → zip (map in_array ks) vs ≡ map key_in_array (zip ks vs)
zip_in_arrays [] vs = refl
zip_in_arrays (k ∷ ks) [] = refl
zip_in_arrays (k ∷ ks) (v ∷ vs) = ap (λ ps. (in_array k, v) ∷ ps) (zip_in_arrays ks vs)

-- the same is made of the items by the keys themselves and by the only item of each
pub keys_ignored : (f : List Keyed → Value) → IgnoresArrays f → (ks keys vs : List Value) → AreKeysOf ks keys → f (zip ks vs) ≡ f (zip keys vs)
keys_ignored f h ks keys vs (inl e) = ap (λ k. f (zip k vs)) e
keys_ignored f h ks keys vs (inr e) = ap (λ k. f (zip k vs)) e ∙ ap f (zip_in_arrays keys vs) ∙ h (zip keys vs)
