-- The functions of the language that are neither defined in jq nor natives, by name and number of arguments.
use Rattle.std.specs.Prelude.{ℕ, List, codes, Bool, Option, Some, None, if◌then◌else◌}
use Rattle.jq_tree.specs.Names.{Reference, to_function, same_reference}
use Rattle.jq_ast.specs.declared.names.Core.{Core}
use Rattle.jq_ast.specs.declared.names.Core.TheVariants.{Empty, Path, Range, RangeBy, Inputs, Halt, HaltError}

abbrev pub core_reference : Core → Reference
core_reference Empty = to_function (codes "empty") 0
core_reference Path = to_function (codes "path") 1
core_reference Range = to_function (codes "range") 2
core_reference RangeBy = to_function (codes "range") 3
core_reference Inputs = to_function (codes "inputs") 0
core_reference Halt = to_function (codes "halt") 0
core_reference HaltError = to_function (codes "halt_error") 1

abbrev pub has_name : Core → List ℕ → ℕ → Bool
has_name c name arguments = same_reference (to_function name arguments) (core_reference c)

-- the function that has the name and takes this number of arguments
abbrev pub core_named : List ℕ → ℕ → Option Core
core_named name arguments =
    if has_name Empty name arguments then Some Empty else
    if has_name Path name arguments then Some Path else
    if has_name Range name arguments then Some Range else
    if has_name RangeBy name arguments then Some RangeBy else
    if has_name Inputs name arguments then Some Inputs else
    if has_name Halt name arguments then Some Halt else
    if has_name HaltError name arguments then Some HaltError else None
