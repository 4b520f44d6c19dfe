-- Places counted from the inside and from the outside, and environments in two parts.
use Rattle.std.specs.Prelude.{◌≡◌, ℕ, ◌+◌, ◌-◌, ◌<◌, ◌≤◌, List, [], ◌∷◌, ◌++◌, length, take, slice_index_or}
use Rattle.jv_data.specs.Value.{Value}
use Rattle.jq_tree.specs.Tree.{Name, Tree, Trees}
use Rattle.jq_tree.specs.Names.{Reference}
use Rattle.jq_tree.specs.BoundTree.{bound_at}
use Rattle.jq_tree.specs.Binders.{binder, prelude_binder}
use Rattle.jq_meaning.specs.Env.{Env, outermost, bound, Binding, find_in_prelude, found_function, find_inputs, with_arguments}
use Rattle.jq_meaning.specs.Runs.{Run}
use Rattle.jq_meaning.specs.Programs.{with_bindings}
use Rattle.jq_meaning.specs.laws.Outwards.{from_place}
use Rattle.jq_meaning.specs.laws.Names.{scope_of, bindings_count, from_outside}

-- ---- walking

-- The environment outside of the binding at place i is the one from place i + 1 on.
abbrev pub StepsLeadOutwards : Type 0
StepsLeadOutwards = (i : ℕ) (e : Env) (b : Binding) (outer : Env) → from_place i e ≡ bound b outer → from_place (i + 1) e ≡ outer

-- A walk past i bindings, at least one, goes past the first binding and then past i - 1 more.
abbrev pub WalksGoOn : Type 0
WalksGoOn = (i : ℕ) (b : Binding) (outer : Env) → 0 < i → from_place i (bound b outer) ≡ from_place (i - 1) outer

-- A walk past i bindings and then past j more is a walk past i + j bindings.
abbrev pub WalksAdd : Type 0
WalksAdd = (i j : ℕ) (e : Env) → from_place j (from_place i e) ≡ from_place (i + j) e

-- ---- from the outside

-- The binding at place i of n is the one at n - 1 - i from the outside.
abbrev pub PlacesCountFromBothEnds : Type 0
PlacesCountFromBothEnds = (i : ℕ) (e : Env) → i < bindings_count e → from_place i e ≡ from_outside (bindings_count e - 1 - i) e

-- A place from the outside keeps its binding when more bindings are added inside.
abbrev pub OuterPlacesStay : Type 0
OuterPlacesStay = (k : ℕ) (inner : List Binding) (outer : Env) → k < bindings_count outer
    → from_outside k (with_bindings inner outer) ≡ from_outside k outer

-- After a list of bindings is added, its item k is at place k from the outside, not counting the earlier bindings.
abbrev pub ListsGiveOuterPlaces : Type 0
ListsGiveOuterPlaces = (k : ℕ) (bs : List Binding) (outer : Env) (d : Binding) → k < length bs
    → from_outside (bindings_count outer + k) (with_bindings bs outer) ≡ bound (slice_index_or bs k d) (with_bindings (take k bs) outer)

-- If a list has no bindings outside it, its item k is at place k from the outside, also with more bindings inside.
abbrev pub ListsGiveOutermostPlaces : Type 0
ListsGiveOutermostPlaces = (k : ℕ) (bs inner : List Binding) (inputs : Run Value) (d : Binding) → k < length bs
    → from_outside k (with_bindings inner (with_bindings bs (outermost inputs)))
    ≡ bound (slice_index_or bs k d) (with_bindings (take k bs) (outermost inputs))

-- ---- two parts

-- Adding two lists of bindings is adding them one after the other, and a list's last binding is the innermost.
abbrev pub ListsAdd : Type 0
ListsAdd = (inner more : List Binding) (outer : Env) → with_bindings (inner ++ more) outer ≡ with_bindings more (with_bindings inner outer)

abbrev pub LastIsInnermost : Type 0
LastIsInnermost = (inner : List Binding) (b : Binding) (outer : Env) → with_bindings (inner ++ b ∷ []) outer ≡ bound b (with_bindings inner outer)

-- The number of bindings is the sum of both parts.
abbrev pub CountsAdd : Type 0
CountsAdd = (inner : List Binding) (outer : Env) → bindings_count (with_bindings inner outer) ≡ length inner + bindings_count outer

-- A place less than the number of inner bindings is that of an inner binding, counted from the list's end.
abbrev pub InnerPlaces : Type 0
InnerPlaces = (i : ℕ) (inner : List Binding) (outer : Env) (d : Binding) → i < length inner
    → from_place i (with_bindings inner outer)
    ≡ bound (slice_index_or inner (length inner - 1 - i) d) (with_bindings (take (length inner - 1 - i) inner) outer)

-- A walk past i of the inner bindings leaves all but the last i of them.
abbrev pub InnerWalks : Type 0
InnerWalks = (i : ℕ) (inner : List Binding) (outer : Env) → i ≤ length inner
    → from_place i (with_bindings inner outer) ≡ with_bindings (take (length inner - i) inner) outer

-- Every other place, minus the number of inner bindings, is a place of the outer part.
abbrev pub OuterPlaces : Type 0
OuterPlaces = (i : ℕ) (inner : List Binding) (outer : Env) → length inner ≤ i
    → from_place i (with_bindings inner outer) ≡ from_place (i - length inner) outer

-- Counted from the outside, it is the same place in the whole environment and in the outer part.
abbrev pub OuterPlacesFromOutside : Type 0
OuterPlacesFromOutside = (i : ℕ) (inner : List Binding) (outer : Env) → length inner ≤ i → i < bindings_count (with_bindings inner outer)
    → from_place i (with_bindings inner outer) ≡ from_outside (bindings_count (with_bindings inner outer) - 1 - i) outer

-- A name whose place is in the outer part has the same binder there.
abbrev pub OuterBinders : Type 0
OuterBinders = (i : ℕ) (inner : List Binding) (outer : Env) (r : Reference) → length inner ≤ i
    → binder (scope_of (with_bindings inner outer)) r ≡ bound_at i → binder (scope_of outer) r ≡ bound_at (i - length inner)

-- The prelude's own function keeps its place from the outside, and is found when more bindings are added inside.
abbrev pub PreludeBindersStay : Type 0
PreludeBindersStay = (i : ℕ) (inner : List Binding) (outer : Env) (r : Reference) → prelude_binder (scope_of outer) r ≡ bound_at i
    → prelude_binder (scope_of (with_bindings inner outer)) r ≡ bound_at (length inner + i)

abbrev pub PreludeFunctionsStay : Type 0
PreludeFunctionsStay = (inner : List Binding) (outer : Env) (n : Name) (count : ℕ) (parameters : List Name) (body : Tree) (own : Env)
    → find_in_prelude n count outer ≡ found_function parameters body own
    → find_in_prelude n count (with_bindings inner outer) ≡ found_function parameters body own

-- ---- `inputs`

-- The outputs of `inputs` are the same after a walk outwards, after bindings are added, and inside a call.
abbrev pub InputsStayOutwards : Type 0
InputsStayOutwards = (i : ℕ) (e : Env) → find_inputs (from_place i e) ≡ find_inputs e

abbrev pub InputsStay : Type 0
InputsStay = (bs : List Binding) (e : Env) → find_inputs (with_bindings bs e) ≡ find_inputs e

abbrev pub InputsStayInCalls : Type 0
InputsStayInCalls = (ps : List Name) (ts : Trees) (caller own : Env) → find_inputs (with_arguments ps ts caller own) ≡ find_inputs own
