-- The level of a label in one binding.
use Rattle.std.specs.Prelude.{◌≡◌, ℕ, List, Some}
use Rattle.jq_tree.specs.Tree.{Name}
use Rattle.jq_meaning.specs.Env.{Env, bound, find_level}
use Rattle.jq_state.specs.Nodes.{binding_in}
use Rattle.jq_state.specs.declared.environments.Binding.{Binding}

abbrev pub HasNoLevel : Name → Binding → Type 0
HasNoLevel n b = (envs : List Env) (e : Env) → find_level n (bound (binding_in envs b) e) ≡ find_level n e

abbrev pub HasLevel : Name → Binding → ℕ → Type 0
HasLevel n b level = (envs : List Env) (e : Env) → find_level n (bound (binding_in envs b) e) ≡ Some level
