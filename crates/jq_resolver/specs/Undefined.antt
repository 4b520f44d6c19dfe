-- The first name of a program that nothing binds.
use Rattle.std.specs.Prelude.{◌≡◌, List, [], ◌∷◌, Option, Some, None}
use Rattle.jv_data.specs.Text.{text_of}
use Rattle.jq_tree.specs.Names.{Reference, to_function, to_variable, to_label, to_format}
use Rattle.jq_resolver.specs.declared.unbound.Undefined.{Undefined}
use Rattle.jq_resolver.specs.declared.unbound.Undefined.TheVariants as undefined

-- What the name refers to.
abbrev pub reference_of : Undefined → Reference
reference_of (undefined.Function name arity) = to_function (text_of name) arity
reference_of (undefined.Variable name) = to_variable (text_of name)
reference_of (undefined.Label name) = to_label (text_of name)
reference_of (undefined.Format name) = to_format (text_of name)

-- The first of the references that nothing binds, or None if there are none.
abbrev pub IsFirstUndefined : (unbound : List Reference) → Option Undefined → Type 0
IsFirstUndefined unbound None = unbound ≡ []
IsFirstUndefined unbound (Some u) = (others : List Reference) × (unbound ≡ reference_of u ∷ others)
