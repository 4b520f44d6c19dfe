-- The binding that a name finds in an environment is the one at the name's place.
use Rattle.std.specs.Prelude.{◌≡◌, ℕ, ◌<◌, List, length, true, Some}
use Rattle.jq_tree.specs.Tree.{Name, Tree}
use Rattle.jq_tree.specs.Names.{Reference, to_function, to_variable, to_label, to_format}
use Rattle.jq_tree.specs.BoundTree.{bound_at, in_language, nowhere}
use Rattle.jq_tree.specs.Binders.{binder, prelude_binder}
use Rattle.jq_meaning.specs.Env.{Env, bound, Binding, value_of, function, closure, label_of, found_function, found_closure, no_callee, find_value, find_level, find_callee, find_in_prelude}
use Rattle.jq_meaning.specs.laws.KnownNames.{is_known}
use Rattle.jq_meaning.specs.laws.Outwards.{from_place}
use Rattle.jq_meaning.specs.laws.Names.{name_of, scope_of, bindings_count}

-- A name's place is within the environment, and the binding there has the name.
abbrev pub BindingsHaveTheirNames : Type 0
BindingsHaveTheirNames = (e : Env) (r : Reference) (i : ℕ) → binder (scope_of e) r ≡ bound_at i
    → (b : Binding) × (outer : Env) × (from_place i e ≡ bound b outer) × (name_of b ≡ r) × (i < bindings_count e)

-- A variable's value is at its place.
abbrev pub ValuesStandAtTheirPlaces : Type 0
ValuesStandAtTheirPlaces = (e : Env) (n : Name) (i : ℕ) → binder (scope_of e) (to_variable n) ≡ bound_at i
    → (outer : Env) × (from_place i e ≡ bound (value_of n (find_value n e)) outer)

-- A label's level is at its place.
abbrev pub LevelsStandAtTheirPlaces : Type 0
LevelsStandAtTheirPlaces = (e : Env) (n : Name) (i : ℕ) → binder (scope_of e) (to_label n) ≡ bound_at i
    → (level : ℕ) × (outer : Env) × (from_place i e ≡ bound (label_of n level) outer) × (find_level n e ≡ Some level)

-- What a call finds at a place: the function there, which sees itself and the bindings outside it; or the argument of the
-- parameter there, which sees what its own environment binds.
pub data CalleeAt (n : Name) (count : ℕ) (e : Env) (i : ℕ) : Type 0 where
  function_at : (parameters : List Name) (body : Tree) (outer : Env) → from_place i e ≡ bound (function n parameters body) outer
      → length parameters ≡ count → find_callee n count e ≡ found_function parameters body (bound (function n parameters body) outer)
      → CalleeAt n count e i
  closure_at : (body : Tree) (own outer : Env) → from_place i e ≡ bound (closure n body own) outer
      → count ≡ 0 → find_callee n count e ≡ found_closure body own → CalleeAt n count e i

abbrev pub CalleesStandAtTheirPlaces : Type 0
CalleesStandAtTheirPlaces = (e : Env) (n : Name) (count i : ℕ) → binder (scope_of e) (to_function n count) ≡ bound_at i → CalleeAt n count e i

-- If the name is a part of the language, a call finds no binding, and so it is a builtin.
abbrev pub LanguageNamesFindNothing : Type 0
LanguageNamesFindNothing = (e : Env) (n : Name) (count : ℕ) → binder (scope_of e) (to_function n count) ≡ in_language → find_callee n count e ≡ no_callee

-- A call of the prelude's own function finds the function at its place. (A parameter can be there only if the prelude has no
-- such function.)
abbrev pub PreludeFunctionsStandAtTheirPlaces : Type 0
PreludeFunctionsStandAtTheirPlaces = (e : Env) (n : Name) (count i : ℕ) → prelude_binder (scope_of e) (to_function n count) ≡ bound_at i
    → (m : Name) (parameters : List Name) (body : Tree) (outer : Env) → from_place i e ≡ bound (function m parameters body) outer
    → find_in_prelude n count e ≡ found_function parameters body (bound (function m parameters body) outer)

-- If nothing binds the name, it finds no binding.
abbrev pub UnboundPreludeNamesFindNothing : Type 0
UnboundPreludeNamesFindNothing = (e : Env) (n : Name) (count : ℕ) → prelude_binder (scope_of e) (to_function n count) ≡ nowhere
    → find_in_prelude n count e ≡ no_callee

-- ---- the language's names

-- A name that is a part of the language is known to the meaning, and is no variable or label.
abbrev pub LanguageNamesAreKnown : Type 0
LanguageNamesAreKnown = (e : Env) (r : Reference) → binder (scope_of e) r ≡ in_language → is_known r ≡ true

-- No environment binds a format.
abbrev pub FormatsAreNotBound : Type 0
FormatsAreNotBound = (e : Env) (n : Name) (i : ℕ) → binder (scope_of e) (to_format n) ≡ bound_at i → ⊥
