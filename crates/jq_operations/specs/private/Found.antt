-- What a call finds in one binding.
use Rattle.std.specs.Prelude.{◌≡◌, ℕ, suc, List}
use Rattle.jq_ast.specs.declared.tree.Function.{Function}
use Rattle.jq_ast.specs.declared.tree.Tree.{Tree}
use Rattle.jq_tree.specs.Tree.{Name}
use Rattle.jq_meaning.specs.Env.{Env, bound, find_callee, find_in_prelude, callee_or}
use Rattle.jq_state.specs.Nodes.{binding_in, env_at}
use Rattle.jq_state.specs.declared.environments.Binding.{Binding}
use Rattle.jq_operations.specs.Callees.{CalleeFits, callee_in, found}
use Rattle.jq_operations.specs.declared.callees.Callee.{Callee}

abbrev pub HasNoCallee : Name → (count : ℕ) → Binding → Type 0
HasNoCallee n count b = (envs : List Env) (e : Env) → find_callee n count (bound (binding_in envs b) e) ≡ find_callee n count e

-- The binding of the environment at an index.
abbrev pub HasCallee : Name → (count : ℕ) → Binding → (index : ℕ) → Callee → Type 0
HasCallee n count b index c =
    CalleeFits (suc index) c
    × ((envs : List Env) (e : Env) → env_at envs index ≡ bound (binding_in envs b) e → find_callee n count (bound (binding_in envs b) e) ≡ callee_in envs c)

abbrev pub HasNoFunction : Name → (count : ℕ) → Binding → Type 0
HasNoFunction n count b = (envs : List Env) (e : Env) → find_in_prelude n count (bound (binding_in envs b) e) ≡ find_in_prelude n count e

abbrev pub HasFunction : Name → (count : ℕ) → Binding → Function Tree → Type 0
HasFunction n count b f =
    (envs : List Env) (e : Env) → find_in_prelude n count (bound (binding_in envs b) e) ≡ callee_or (find_in_prelude n count e) (found f (bound (binding_in envs b) e))
