-- The names that have a meaning without a definition.
use Rattle.std.specs.Prelude.{Bool, true, false, is_some}
use Rattle.jv_text.specs.Formats.{format_named}
use Rattle.jq_tree.specs.Names.{Reference, to_function, to_format}
use Rattle.jq_meaning.specs.Builtins.{Builtin, unknown, builtin_named}

abbrev pub is_builtin : Builtin → Bool
is_builtin unknown = false
is_builtin b = true

abbrev pub is_known : Reference → Bool
is_known (to_function n arity) = is_builtin (builtin_named n arity)
is_known (to_format n) = is_some (format_named n)
is_known r = false
