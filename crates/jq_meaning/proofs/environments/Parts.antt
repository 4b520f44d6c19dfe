-- Places from the outside, and environments in two parts.
use Rattle.std.proofs.Common.{◌≡◌, ℕ, zero, suc, ◌+◌, ◌-◌, ◌<◌, ◌≤◌, List, [], ◌∷◌, length, take, drop, refl, sym, ap, ◌∙◌, arith}
use Rattle.std.proofs.lemmas.List.{take-append-drop, length-drop}
use Rattle.jq_tree.specs.Names.{same_reference}
use Rattle.jq_tree.specs.BoundTree.{bound_at}
use Rattle.jq_tree.specs.Binders.{binder}
use Rattle.jq_meaning.specs.Env.{Env, outermost, bound, Binding}
use Rattle.jq_meaning.specs.Programs.{with_bindings}
use Rattle.jq_meaning.specs.laws.Outwards.{from_place}
use Rattle.jq_meaning.specs.laws.Names.{name_of, scope_of, bindings_count, from_outside}
use Rattle.jq_meaning.specs.laws.Places.{OuterPlacesStay, ListsGiveOuterPlaces, ListsGiveOutermostPlaces, InnerPlaces, InnerWalks, LastIsInnermost, OuterPlaces, OuterPlacesFromOutside, OuterBinders, PreludeBindersStay, PreludeFunctionsStay}
use Rattle.jq_meaning.proofs.environments.Binders.{later_place, prelude_further_in}
use Rattle.jq_meaning.proofs.environments.Found.{still_found}
use Rattle.jq_meaning.proofs.environments.Walks.{counts_add, with_append}

-- ---- from the outside

one_further_in : (k : ℕ) (b : Binding) (e : Env) → k < bindings_count e → from_outside k (bound b e) ≡ from_outside k e
one_further_in k b e h =
    let p : suc (bindings_count e) - 1 - k ≡ suc (bindings_count e - 1 - k) = omega (arith, h) in
    ap (λ (j : ℕ). from_place j (bound b e)) p

pub outer_stays : OuterPlacesStay
outer_stays k [] outer h = refl
outer_stays k (b ∷ bs) outer h = let l : k < suc (bindings_count outer) = omega (arith, h) in outer_stays k bs (bound b outer) l ∙ one_further_in k b outer h

pub list_gives : ListsGiveOuterPlaces
list_gives k [] outer d h = let l : ⊥ = omega (arith, h) in absurd l
list_gives zero (b ∷ bs) outer d h =
    let p : bindings_count outer + 0 ≡ bindings_count outer = omega arith in
    let l : bindings_count outer < suc (bindings_count outer) = omega arith in
    let q : suc (bindings_count outer) - 1 - bindings_count outer ≡ 0 = omega arith in
    ap (λ (j : ℕ). from_outside j (with_bindings bs (bound b outer))) p ∙ outer_stays (bindings_count outer) bs (bound b outer) l
    ∙ ap (λ (j : ℕ). from_place j (bound b outer)) q
list_gives (suc k) (b ∷ bs) outer d h =
    let p : bindings_count outer + suc k ≡ suc (bindings_count outer) + k = omega arith in
    let l : k < length bs = omega (arith, h) in
    ap (λ (j : ℕ). from_outside j (with_bindings bs (bound b outer))) p ∙ list_gives k bs (bound b outer) d l

pub list_gives_outermost : ListsGiveOutermostPlaces
list_gives_outermost k bs inner inputs d h =
    let n = counts_add bs (outermost inputs) in
    let l : k < bindings_count (with_bindings bs (outermost inputs)) = omega (arith, h, n) in
    let p : k ≡ 0 + k = omega arith in
    outer_stays k inner (with_bindings bs (outermost inputs)) l
    ∙ ap (λ (j : ℕ). from_outside j (with_bindings bs (outermost inputs))) p ∙ list_gives k bs (outermost inputs) d h

-- ---- two parts

pub inner_places : InnerPlaces
inner_places i inner outer d h =
    let n = counts_add inner outer in
    let p : i ≡ bindings_count (with_bindings inner outer) - 1 - (bindings_count outer + (length inner - 1 - i)) = omega (arith, h, n) in
    let l : length inner - 1 - i < length inner = omega (arith, h) in
    ap (λ (j : ℕ). from_place j (with_bindings inner outer)) p ∙ list_gives (length inner - 1 - i) inner outer d l

pub outer_places : OuterPlaces
outer_places i [] outer h = let p : i ≡ i - 0 = omega arith in ap (λ (j : ℕ). from_place j outer) p
outer_places i (b ∷ bs) outer h =
    let l : length bs ≤ i = omega (arith, h) in
    let p : i - length bs ≡ suc (i - suc (length bs)) = omega (arith, h) in
    outer_places i bs (bound b outer) l ∙ ap (λ (j : ℕ). from_place j (bound b outer)) p

pub inner_walks : InnerWalks
inner_walks i inner outer h =
    let left : List Binding = take (length inner - i) inner in
    let passed : List Binding = drop (length inner - i) inner in
    let n : length passed ≡ length inner - (length inner - i) = length-drop (length inner - i) inner in
    let l : length passed ≤ i = omega (arith, h, n) in
    let p : i - length passed ≡ 0 = omega (arith, h, n) in
    ap (λ (bs : List Binding). from_place i (with_bindings bs outer)) (sym (take-append-drop (length inner - i) inner))
    ∙ ap (λ (e : Env). from_place i e) (with_append left passed outer) ∙ outer_places i passed (with_bindings left outer) l
    ∙ ap (λ (j : ℕ). from_place j (with_bindings left outer)) p

pub last_is_innermost : LastIsInnermost
last_is_innermost inner b outer = with_append inner (b ∷ []) outer

pub outer_places_from_outside : OuterPlacesFromOutside
outer_places_from_outside i inner outer h g =
    let n = counts_add inner outer in
    let p : i - length inner ≡ bindings_count outer - 1 - (bindings_count (with_bindings inner outer) - 1 - i) = omega (arith, h, g, n) in
    outer_places i inner outer h ∙ ap (λ (j : ℕ). from_place j outer) p

pub outer_binders : OuterBinders
outer_binders i [] outer r h e = let p : i ≡ i - 0 = omega arith in e ∙ ap bound_at p
outer_binders i (b ∷ bs) outer r h e =
    let l : length bs ≤ i = omega (arith, h) in
    let p : i - length bs ≡ suc (i - suc (length bs)) = omega (arith, h) in
    later_place (same_reference r (name_of b)) (binder (scope_of outer) r) (i - suc (length bs)) (outer_binders i bs (bound b outer) r l e ∙ ap bound_at p)

pub prelude_binders_stay : PreludeBindersStay
prelude_binders_stay i [] outer r e = let p : i ≡ 0 + i = omega arith in e ∙ ap bound_at p
prelude_binders_stay i (b ∷ bs) outer r e =
    let p : length bs + suc i ≡ suc (length bs) + i = omega arith in
    prelude_binders_stay (suc i) bs (bound b outer) r (prelude_further_in (scope_of outer) r (name_of b) i e) ∙ ap bound_at p

pub prelude_functions_stay : PreludeFunctionsStay
prelude_functions_stay [] outer n count ps body own h = h
prelude_functions_stay (b ∷ bs) outer n count ps body own h =
    prelude_functions_stay bs (bound b outer) n count ps body own (still_found b outer n count ps body own h)
