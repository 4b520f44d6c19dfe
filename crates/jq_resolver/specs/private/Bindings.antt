-- The binders of the code as references of the definitions.
use Rattle.std.specs.Prelude.{◌≡◌, ◌<◌, ◌-◌, ℕ, suc, List, length, map, string_bytes}
use Rattle.std.specs.Str.{chars}
use Rattle.jq_tree.specs.Binders.{binder, prelude_binder}
use Rattle.jq_tree.specs.BoundTree.{bound_at}
use Rattle.jq_tree.specs.Names.{Reference, to_function, to_variable, to_label, Scope}
use Rattle.jq_resolver.specs.declared.bindings.Kind.{Kind}
use Rattle.jq_resolver.specs.declared.bindings.Kind.TheVariants.{Function, Variable, Label}
use Rattle.jq_resolver.specs.declared.bindings.Bound.{Bound}

-- The reference of a name in UTF-8.
abbrev pub referred : Kind → List ℕ → Reference
referred (Function arity) name = to_function (chars name) arity
referred Variable name = to_variable (chars name)
referred Label name = to_label (chars name)

abbrev pub reference_in : Bound → Reference
reference_in b = referred b.kind (string_bytes b.name)

-- A binder as its kind and its name in UTF-8.
abbrev pub named_in : Bound → Kind × List ℕ
named_in b = (b.kind, string_bytes b.name)

abbrev pub reference_of : Kind × List ℕ → Reference
reference_of n = referred n.0 n.1

abbrev pub references : List (Kind × List ℕ) → Scope
references = map reference_of

-- ---- the binder of a name, as the number of binders outside of it

-- This is the place of the innermost binder.
abbrev pub IsBinder : Scope → Reference → ℕ → Type 0
IsBinder s r i = (i < length s) × (binder s r ≡ bound_at (length s - suc i))

-- This is the place of the outermost binder, which is the prelude's.
abbrev pub IsPreludeBinder : Scope → Reference → ℕ → Type 0
IsPreludeBinder s r i = (i < length s) × (prelude_binder s r ≡ bound_at (length s - suc i))
