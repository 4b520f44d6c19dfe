-- What the names of the language mean.
use Rattle.jq_meaning.specs.Builtins as meaning
use Rattle.jq_operations.specs.declared.named_builtins.Builtin.{Builtin}
use Rattle.jq_operations.specs.declared.named_builtins.Builtin.TheVariants as builtin

abbrev pub meaning_of : Builtin → meaning.Builtin
meaning_of builtin.NoOutputs = meaning.no_outputs
meaning_of builtin.Paths = meaning.paths
meaning_of builtin.Range = meaning.range
meaning_of builtin.AllInputs = meaning.all_inputs
meaning_of builtin.Halts = meaning.halts
meaning_of (builtin.Native f) = meaning.native f
meaning_of builtin.Unknown = meaning.unknown
