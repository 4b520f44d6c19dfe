-- The bindings around a filter.
use Rattle.std.specs.Prelude.{List, ◌++◌, map, reverse}
use Rattle.jv_data.specs.Value.{Value}
use Rattle.jq_tree.specs.Tree.{Name}
use Rattle.jq_ast.specs.declared.tree.Function.{Function}
use Rattle.jq_ast.specs.declared.tree.Tree.{Tree}
use Rattle.jq_meaning.specs.Env as env
use Rattle.jq_state.specs.Nodes.{program_binding}
use Rattle.jq_state.specs.declared.environments.ProgramBinding.TheVariants as program

abbrev pub value_binding : Name × Value → env.Binding
value_binding v = env.value_of v.0 v.1

abbrev pub function_binding : Function Tree → env.Binding
function_binding f = program_binding (program.Function f)

-- from the outermost to the innermost: the variables, of which the first comes last, and then the functions in their order
abbrev pub bindings_of : List (Name × Value) → List (Function Tree) → List env.Binding
bindings_of variables functions = reverse (map value_binding variables) ++ map function_binding functions
