-- The items that locations are grouped by, with one more location.
use Rattle.std.proofs.Common.{◌≡◌, ◌∙◌, ◌+◌, ◌<◌, ◌≤◌, ℕ, zero, suc, List, [], ◌∷◌, ◌++◌, length, true, false, ap, sym, refl, ◌==◌, get_or, slice_set, arith}
use Rattle.std.proofs.lemmas.Bool.Decides.{nat_tests}
use Rattle.std.proofs.lemmas.List.{append-nil, length-map, map-set}
use Rattle.std.proofs.Math.ListN.{get_or-map}
use Rattle.jv_data.specs.Value.{Value}
use Rattle.jv_data.specs.View.{view}
use Rattle.jv_value.specs.private.ItemGroups.{grouped_from, groups_in}
use Rattle.jv_value.specs.DeletePaths.{following}
use Rattle.jv_value.specs.Locations.{at, key, Location}
use Rattle.jv_value.specs.private.Locations.{locations_in}
use Rattle.jv_value.specs.declared.removing.ItemGroup.{ItemGroup}
use Rattle.jv_value.proofs.Following.{following-append}

-- a location that is in none of the items
pub grouped_elsewhere : (qs : List Location) (q : Location) (i : ℕ) (vs : List Value) → ((j : ℕ) → j < length vs → following (at (i + j)) (q ∷ []) ≡ []) → grouped_from (qs ++ q ∷ []) i vs ≡ grouped_from qs i vs
grouped_elsewhere qs q i [] h = refl
grouped_elsewhere qs q i (v ∷ vs) h =
    let here : following (at i) (q ∷ []) ≡ [] = (let e : i + 0 ≡ i = omega arith in ap (λ k. following (at k) (q ∷ [])) (sym e) ∙ h 0 (omega arith)) in
    let first : following (at i) (qs ++ q ∷ []) ≡ following (at i) qs = following-append (at i) qs (q ∷ []) ∙ ap (λ rs. following (at i) qs ++ rs) here ∙ append-nil (following (at i) qs) in
    let rest : grouped_from (qs ++ q ∷ []) (i + 1) vs ≡ grouped_from qs (i + 1) vs = grouped_elsewhere qs q (i + 1) vs (λ j g. let e : i + 1 + j ≡ i + (j + 1) = omega arith in ap (λ k. following (at k) (q ∷ [])) e ∙ h (j + 1) (omega arith)) in
    rw (first, rest)

other_item : (i j : ℕ) (q : Location) → (i ≡ j → ⊥) → following (at i) ((at j ∷ q) ∷ []) ≡ []
other_item i j q h = let no : (i == j) ≡ false = grind (arith, nat_tests) in rw no refl

same_item : (i j : ℕ) (q : Location) → i ≡ j → following (at i) ((at j ∷ q) ∷ []) ≡ q ∷ []
same_item i j q e = let yes : (i == j) ≡ true = grind (arith, nat_tests) in rw yes refl

pub grouped_past : (qs : List Location) (k : ℕ) (q : Location) (vs : List Value) → length vs ≤ k → grouped_from (qs ++ (at k ∷ q) ∷ []) 0 vs ≡ grouped_from qs 0 vs
grouped_past qs k q vs h = grouped_elsewhere qs (at k ∷ q) 0 vs (λ j g. other_item (0 + j) k q (λ e. absurd (omega arith)))

-- a location in the item at k
pub grouped_here : (qs : List Location) (i k : ℕ) (q : Location) (vs : List Value) (d : Value × List Location) → k < length vs
    → grouped_from (qs ++ (at (i + k) ∷ q) ∷ []) i vs ≡ slice_set (grouped_from qs i vs) k ((get_or (grouped_from qs i vs) k d).0, (get_or (grouped_from qs i vs) k d).1 ++ q ∷ [])
grouped_here qs i k q [] d h = absurd (omega arith)
grouped_here qs i zero q (v ∷ vs) d h =
    let e : i ≡ i + 0 = omega arith in
    let first : following (at i) (qs ++ (at (i + 0) ∷ q) ∷ []) ≡ following (at i) qs ++ q ∷ [] = following-append (at i) qs ((at (i + 0) ∷ q) ∷ []) ∙ ap (λ rs. following (at i) qs ++ rs) (same_item i (i + 0) q e) in
    let rest : grouped_from (qs ++ (at (i + 0) ∷ q) ∷ []) (i + 1) vs ≡ grouped_from qs (i + 1) vs = grouped_elsewhere qs (at (i + 0) ∷ q) (i + 1) vs (λ j g. other_item (i + 1 + j) (i + 0) q (λ f. absurd (omega arith))) in
    rw (first, rest)
grouped_here qs i (suc k) q (v ∷ vs) d h =
    let first : following (at i) (qs ++ (at (i + suc k) ∷ q) ∷ []) ≡ following (at i) qs = following-append (at i) qs ((at (i + suc k) ∷ q) ∷ []) ∙ ap (λ rs. following (at i) qs ++ rs) (other_item i (i + suc k) q (λ f. absurd (omega arith))) ∙ append-nil (following (at i) qs) in
    let e : i + suc k ≡ i + 1 + k = omega arith in
    let rest : grouped_from (qs ++ (at (i + suc k) ∷ q) ∷ []) (i + 1) vs ≡ slice_set (grouped_from qs (i + 1) vs) k ((get_or (grouped_from qs (i + 1) vs) k d).0, (get_or (grouped_from qs (i + 1) vs) k d).1 ++ q ∷ []) =
    ap (λ n. grouped_from (qs ++ (at n ∷ q) ∷ []) (i + 1) vs) e ∙ grouped_here qs (i + 1) k q vs d (omega arith) in
    rw (first, rest)

-- a location that begins with a key, or is the value itself
pub grouped_no_item : (qs : List Location) (q : Location) (s : List ℕ) (r : Location) (vs : List Value) → q ≡ key s ∷ r → grouped_from (qs ++ q ∷ []) 0 vs ≡ grouped_from qs 0 vs
grouped_no_item qs q s r vs e = grouped_elsewhere qs q 0 vs (λ j h. ap (λ p. following (at (0 + j)) (p ∷ [])) e)

pub grouped_itself : (qs : List Location) (q : Location) (vs : List Value) → q ≡ [] → grouped_from (qs ++ q ∷ []) 0 vs ≡ grouped_from qs 0 vs
grouped_itself qs q vs e = grouped_elsewhere qs q 0 vs (λ j h. ap (λ p. following (at (0 + j)) (p ∷ [])) e)

length-grouped_from : (qs : List Location) (i : ℕ) (vs : List Value) → length (grouped_from qs i vs) ≡ length vs
length-grouped_from qs i [] = refl
length-grouped_from qs i (v ∷ vs) = ap suc (length-grouped_from qs (i + 1) vs)

grouped_length : (xs : List ItemGroup) (qs : List Location) (vs : List Value) → groups_in xs ≡ grouped_from qs 0 vs → length vs ≡ length xs
grouped_length xs qs vs e = sym (length-grouped_from qs 0 vs) ∙ ap length (sym e) ∙ length-map xs (λ a. (view a.item, locations_in a.locations.items))

pub grouped_unpushed : (xs : List ItemGroup) (qs : List Location) (vs : List Value) (i : ℕ) (q : Location) → length xs ≤ i → groups_in xs ≡ grouped_from qs 0 vs → groups_in xs ≡ grouped_from (qs ++ (at i ∷ q) ∷ []) 0 vs
grouped_unpushed xs qs vs i q h e = let same = grouped_length xs qs vs e in e ∙ sym (grouped_past qs i q vs (omega arith))

pub grouped_pushed : (xs : List ItemGroup) (qs : List Location) (vs : List Value) (i : ℕ) (t u : ItemGroup) (q : Location) → i < length xs → t ≡ get_or xs i t → view u.item ≡ view t.item → locations_in u.locations.items ≡ locations_in t.locations.items ++ q ∷ [] → groups_in xs ≡ grouped_from qs 0 vs → groups_in (slice_set xs i u) ≡ grouped_from (qs ++ (at i ∷ q) ∷ []) 0 vs
grouped_pushed xs qs vs i t u q h read item locations e =
    let f : ItemGroup → Value × List Location = λ a. (view a.item, locations_in a.locations.items) in
    let same = grouped_length xs qs vs e in
    let inside : i < length vs = omega arith in
    let old : get_or (grouped_from qs 0 vs) i (f t) ≡ f t = ap (λ ys. get_or ys i (f t)) (sym e) ∙ get_or-map f xs i t ∙ ap f (sym read) in
    let new : f u ≡ ((get_or (grouped_from qs 0 vs) i (f t)).0, (get_or (grouped_from qs 0 vs) i (f t)).1 ++ q ∷ []) = rw (old, item, locations) refl in
    let zero_more : 0 + i ≡ i = omega arith in
    map-set f xs i u ∙ ap (λ ys. slice_set ys i (f u)) e ∙ ap (slice_set (grouped_from qs 0 vs) i) new ∙ sym (grouped_here qs 0 i q vs (f t) inside) ∙ ap (λ n. grouped_from (qs ++ (at n ∷ q) ∷ []) 0 vs) zero_more

pub grouped_nothing : (i : ℕ) (vs : List Value) (v : Value) → grouped_from [] i (vs ++ v ∷ []) ≡ grouped_from [] i vs ++ (v, []) ∷ []
grouped_nothing i [] v = refl
grouped_nothing i (w ∷ vs) v = ap (λ xs. (w, []) ∷ xs) (grouped_nothing (i + 1) vs v)
