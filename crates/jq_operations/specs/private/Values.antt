-- The value of a variable in one binding.
use Rattle.std.specs.Prelude.{◌≡◌, List}
use Rattle.jv_data.specs.Value.{Value}
use Rattle.jq_tree.specs.Tree.{Name}
use Rattle.jq_meaning.specs.Env.{Env, bound, find_value}
use Rattle.jq_state.specs.Nodes.{binding_in}
use Rattle.jq_state.specs.declared.environments.Binding.{Binding}

abbrev pub HasNoValue : Name → Binding → Type 0
HasNoValue n b = (envs : List Env) (e : Env) → find_value n (bound (binding_in envs b) e) ≡ find_value n e

abbrev pub HasValue : Name → Binding → Value → Type 0
HasValue n b v = (envs : List Env) (e : Env) → find_value n (bound (binding_in envs b) e) ≡ v
