-- The names that an environment binds, and places counted from the outside.
use Rattle.std.specs.Prelude.{ℕ, ◌-◌, [], ◌∷◌, length}
use Rattle.jq_tree.specs.Names.{Reference, to_function, to_variable, to_label, Scope}
use Rattle.jq_meaning.specs.Env.{Env, outermost, bound, Binding, value_of, function, closure, label_of}
use Rattle.jq_meaning.specs.laws.Outwards.{from_place}

-- The name that a binding binds. A parameter is a function without parameters.
abbrev pub name_of : Binding → Reference
name_of (value_of n v) = to_variable n
name_of (function n parameters body) = to_function n (length parameters)
name_of (closure n body own) = to_function n 0
name_of (label_of n level) = to_label n

-- The names that an environment binds, the innermost first.
abbrev pub scope_of : Env → Scope
scope_of (outermost inputs) = []
scope_of (bound b e) = name_of b ∷ scope_of e

-- The number of bindings of an environment.
abbrev pub bindings_count : Env → ℕ
bindings_count e = length (scope_of e)

-- `from_place` with the place counted from the outside: `k` bindings are outside its first one.
abbrev pub from_outside : (k : ℕ) → Env → Env
from_outside k e = from_place (bindings_count e - 1 - k) e
