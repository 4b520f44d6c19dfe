-- Which names of the language keep paths.
use Rattle.std.specs.Prelude.{Bool, true, false}
use Rattle.jq_natives.specs.declared.native.Native.TheVariants.{GetPath}
use Rattle.jq_operations.specs.declared.named_builtins.Builtin.{Builtin}
use Rattle.jq_operations.specs.declared.named_builtins.Builtin.TheVariants as builtin

-- whether it may run on an item with a path
abbrev pub keeps_paths : Builtin → Bool
keeps_paths builtin.NoOutputs = true
keeps_paths builtin.Paths = false
keeps_paths builtin.Range = false
keeps_paths builtin.AllInputs = false
keeps_paths builtin.Halts = true
keeps_paths (builtin.Native GetPath) = true
keeps_paths (builtin.Native f) = false
keeps_paths builtin.Unknown = true
