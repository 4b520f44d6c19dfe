-- A filter in the bindings of its program.
use Rattle.std.specs.Prelude.{◌≡◌, ℕ, List, length, map}
use Rattle.jv_data.specs.Value.{Value}
use Rattle.jq_ast.specs.Named.{named}
use Rattle.jq_ast.specs.declared.tree.Function.{Function}
use Rattle.jq_ast.specs.declared.tree.Tree.{Tree}
use Rattle.jq_meaning.specs.Programs.{program_env, with_bindings}
use Rattle.jq_meaning.specs.Env.{outermost, with_variables}
use Rattle.jq_meaning.specs.Meaning.{meaning}
use Rattle.jq_meaning.specs.Runs.{Run, Item}
use Rattle.jq_resolver.specs.Programs.{named_program}
use Rattle.jq_state.specs.Nodes.{program_binding}
use Rattle.jq_state.specs.declared.environments.ProgramBinding.{ProgramBinding}
use Rattle.jq_tree.specs.Tree.{Name}
use Rattle.jq_filters.specs.Programs.{bindings_of, function_binding}

-- It has the meaning of the filter after the prelude, in the variables.
abbrev pub BindingsStandForThePrelude : Type 0
BindingsStandForThePrelude =
    (depth : ℕ) (variables : List (Name × Value)) (functions : List (Function Tree)) (t : Tree) (bindings : List ProgramBinding) (inputs : Run Value) (x : Item)
    → map program_binding bindings ≡ bindings_of variables functions
    → meaning depth (named t) (program_env (map program_binding bindings) (length bindings) inputs) 0 x ≡ meaning depth (named_program functions t) (with_variables variables (outermost inputs)) 0 x

-- The bindings are those of the program's functions, around which are the variables.
abbrev pub FunctionsComeAfterTheVariables : Type 0
FunctionsComeAfterTheVariables =
    (variables : List (Name × Value)) (functions : List (Function Tree)) (bindings : List ProgramBinding) (inputs : Run Value) → map program_binding bindings ≡ bindings_of variables functions
    → program_env (map program_binding bindings) (length bindings) inputs ≡ with_bindings (map function_binding functions) (with_variables variables (outermost inputs))
