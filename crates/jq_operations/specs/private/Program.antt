-- The environments of the program's own bindings.
use Rattle.std.specs.Prelude.{◌≡◌, ℕ, suc, ◌≤◌, length, slice_get, Some, None}
use Rattle.jv_data.specs.Value.{Value}
use Rattle.jq_tree.specs.Tree.{Name}
use Rattle.jq_meaning.specs.Env.{outermost, bound, find_level}
use Rattle.jq_meaning.specs.Env as env
use Rattle.jq_meaning.specs.Runs.{Run}
use Rattle.jq_state.specs.Environments.{envs_of, program_of}
use Rattle.jq_state.specs.Nodes.{env_at}
use Rattle.jq_state.specs.declared.environments.Nodes.{Nodes}

-- The first environment has no binding, and each of the program's bindings makes the next one.
pub record ProgramIsAList (ns : Nodes) : Type 0 where
  pub begin : (inputs : Run Value) → env_at (envs_of inputs ns) 0 ≡ outermost inputs
  pub grow : (inputs : Run Value) (j : ℕ) (b : env.Binding) → slice_get (program_of ns) j ≡ Some b
      → env_at (envs_of inputs ns) (suc j) ≡ bound b (env_at (envs_of inputs ns) j)

abbrev pub ProgramHasNoLabels : Nodes → Type 0
ProgramHasNoLabels ns = (inputs : Run Value) (n : Name) (j : ℕ) → j ≤ length (program_of ns) → find_level n (env_at (envs_of inputs ns) j) ≡ None
