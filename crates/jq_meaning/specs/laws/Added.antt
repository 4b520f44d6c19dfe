-- The bindings that calls, the options and definitions add, each list from the outermost to the innermost.
use Rattle.std.specs.Prelude.{List, [], ◌∷◌, ◌++◌}
use Rattle.jv_data.specs.Value.{Value}
use Rattle.jq_tree.specs.Tree.{Name, Tree, Trees, no_trees, more_trees, define}
use Rattle.jq_meaning.specs.Env.{Env, Binding, value_of, function, closure}

-- Of a call: each parameter with its argument, which sees what the caller sees.
abbrev pub argument_bindings : List Name → Trees → (caller : Env) → List Binding
argument_bindings [] ts caller = []
argument_bindings (p ∷ ps) no_trees caller = []
argument_bindings (p ∷ ps) (more_trees t ts) caller = closure p t caller ∷ argument_bindings ps ts caller

-- The options' variables: the last one is the outermost, so of two with the same name the first is found.
abbrev pub variable_bindings : List (Name × Value) → List Binding
variable_bindings [] = []
variable_bindings (v ∷ vs) = variable_bindings vs ++ value_of v.0 v.1 ∷ []

-- The functions of the definitions that a tree begins with.
abbrev pub functions_before : Tree → List Binding
functions_before (define n parameters body rest) = function n parameters body ∷ functions_before rest
functions_before t = []

-- Of the program: the options' variables, and inside them the functions that the prelude's tree begins with.
abbrev pub program_bindings : List (Name × Value) → (prelude : Tree) → List Binding
program_bindings variables prelude = variable_bindings variables ++ functions_before prelude
