-- Filters that call no function that halts.
use Rattle.std.specs.Prelude.{◌≡◌, ℕ, List, map}
use Rattle.jv_data.specs.Value.{Value}
use Rattle.jq_tree.specs.Prelude.{IsPrelude, followed_by}
use Rattle.jq_tree.specs.Tree as tree
use Rattle.jq_ast.specs.Named.{named}
use Rattle.jq_ast.specs.declared.tree.Function.{Function}
use Rattle.jq_ast.specs.declared.tree.Tree.{Tree}
use Rattle.jq_inputs.specs.Halting.{CallsNoHalt}
use Rattle.jq_meaning.specs.Meaning.{run_of}
use Rattle.jq_resolver.specs.Programs.{named_program}
use Rattle.jq_state.specs.Nodes.{program_binding}
use Rattle.jq_state.specs.declared.environments.ProgramBinding.{ProgramBinding}
use Rattle.jq_filters.specs.Programs.{bindings_of}
use Rattle.jq_filters.specs.Runner.{run_in}
use Rattle.jq_filters.specs.Unhalted.{NeverHalts}

-- A filter that calls no function that halts, after the prelude and with any variables.
abbrev pub NeverHaltsAfterThePrelude : Type 0
NeverHaltsAfterThePrelude =
    (prelude t : tree.Tree) (depth : ℕ) (variables : List (tree.Name × Value)) → IsPrelude prelude → CallsNoHalt t
    → NeverHalts (λ inputs v. run_of depth variables inputs (followed_by prelude t) v)

-- Such a filter in the bindings of its program, whose functions are those of the prelude.
abbrev pub NeverHaltsInItsBindings : Type 0
NeverHaltsInItsBindings =
    (prelude : tree.Tree) (depth : ℕ) (variables : List (tree.Name × Value)) (functions : List (Function Tree)) (t : Tree) (bindings : List ProgramBinding)
    → IsPrelude prelude → named_program functions t ≡ followed_by prelude (named t) → map program_binding bindings ≡ bindings_of variables functions
    → CallsNoHalt (named t) → NeverHalts (run_in depth t bindings)
