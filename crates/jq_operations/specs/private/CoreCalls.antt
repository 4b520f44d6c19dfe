-- What the functions mean that are neither defined in jq nor natives.
use Rattle.jq_ast.specs.declared.names.Core.{Core}
use Rattle.jq_ast.specs.declared.names.Core.TheVariants.{Empty, Path, Range, RangeBy, Inputs, Halt, HaltError}
use Rattle.jq_meaning.specs.Builtins.{Builtin, no_outputs, paths, range, all_inputs, halts}

abbrev pub core_meaning : Core → Builtin
core_meaning Empty = no_outputs
core_meaning Path = paths
core_meaning Range = range
core_meaning RangeBy = range
core_meaning Inputs = all_inputs
core_meaning Halt = halts
core_meaning HaltError = halts
