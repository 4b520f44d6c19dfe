-- A compiled filter, as it is run: its tree in the bindings of its program.
use Rattle.std.specs.Prelude.{◌≡◌, ℕ, List, Bool, map}
use Rattle.jq_ast.specs.Named.{named}
use Rattle.jq_ast.specs.declared.tree.Function.{Function}
use Rattle.jq_ast.specs.declared.tree.Tree.{Tree}
use Rattle.jq_resolver.specs.Programs.{named_program}
use Rattle.jq_state.specs.Nodes.{program_binding}
use Rattle.jq_state.specs.declared.environments.ProgramBinding.{ProgramBinding}
use Rattle.jq_syntax.specs.Chosen.{Chosen}
use Rattle.jq_tree.specs.Filter.{Plan}
use Rattle.jq_tree.specs.Prelude.{followed_by}
use Rattle.jq_tree.specs.Tree as tree
use Rattle.jq_filters.specs.Accepted.{IsAccepted}
use Rattle.jq_filters.specs.Programs.{bindings_of}
use Rattle.jq_filters.specs.Runner.{job_in, mode_of}
use Rattle.jq_filters.specs.declared.settings.Settings.{Settings}

-- The tree is this one. The bindings are those of the prelude's functions, around which are the variables of the options.
pub record IsCompiled (o : Chosen) (prelude tree : tree.Tree) (depth : ℕ) (t : Tree) (bindings : List ProgramBinding) : Type 0 where
  pub functions : List (Function Tree)
  pub is_tree : named t ≡ tree
  pub definitions : named_program functions t ≡ followed_by prelude tree
  pub bound : map program_binding bindings ≡ bindings_of o.variables functions
  pub in_depth : depth ≡ o.depth

-- The text is accepted, and compiled to these parts.
pub record IsFilter (o : Chosen) (text : List ℕ) (s : Settings) (depth : ℕ) (t : Tree) (bindings : List ProgramBinding) (plan : Plan) (halts : Bool) : Type 0 where
  pub accepted : IsAccepted o text (mode_of s.mode) (job_in s depth t bindings) plan halts
  pub compiled : IsCompiled o accepted.accepts.prelude accepted.accepts.tree depth t bindings
