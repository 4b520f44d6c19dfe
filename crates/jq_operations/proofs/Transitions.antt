-- The state after a transition.
use Rattle.std.proofs.Common.{◌≡◌, ◌∙◌, ◌<◌, ℕ, List, [], ◌∷◌, map, length, get_or, ap, sym, subst, arith}
use Rattle.jv_data.specs.Value.{Value}
use Rattle.jq_ast.proofs.shared.Counts.{count_trees}
use Rattle.jq_ast.specs.Named.{named}
use Rattle.jq_ast.specs.declared.tree.Tree.{Tree}
use Rattle.jq_tree.specs.Tree.{Name, trees_of, trees_count}
use Rattle.jq_meaning.specs.Env.{find_callee, find_in_prelude}
use Rattle.jq_meaning.specs.Runs.{Run, located}
use Rattle.jq_meaning.specs.machine.State.{state, evaluate, operation, path_value}
use Rattle.jq_meaning.specs.machine.State as machine
use Rattle.jq_meaning.specs.machine.Evaluating.{enter_paths}
use Rattle.jq_state.specs.Environments.{envs_of}
use Rattle.jq_state.specs.Nodes.{env_at}
use Rattle.jq_state.specs.declared.environments.Nodes.{Nodes}
use Rattle.jq_operations.specs.Callees.{callee_in}
use Rattle.jq_operations.specs.declared.callees.Callee.{Callee}

-- from its parts
pub came : {m n : machine.Next} {k l : List machine.Frame} {fs gs : List machine.ForkPoint} → m ≡ n → k ≡ l → fs ≡ gs → state m k fs ≡ state n l gs
came {m} {n} {k} {l} {fs} {gs} a b c = ap (λ z. state z k fs) a ∙ ap (λ z. state n z fs) b ∙ ap (state n l) c

-- `path(f)` with its filter
pub paths_first : (ts : List Tree) (t : Tree) (p : machine.Scope) (v : Value) (k : List machine.Frame) (fs : List machine.ForkPoint) → 0 < length ts → t ≡ get_or ts 0 t
    → enter_paths (trees_of (map named ts)) p v k fs ≡ state (evaluate (named t) p (located v [])) (operation path_value ∷ k) fs
paths_first [] t p v k fs h e = absurd (omega (arith, h))
paths_first (u ∷ ts) t p v k fs h e = ap (λ z. state (evaluate (named z) p (located v [])) (operation path_value ∷ k) fs) (sym e)

-- ---- the answer of a search

pub called : (inputs : Run Value) (ns ms : Nodes) (n : Name) (ts : List Tree) (c : Callee) (env : ℕ) → ns ≡ ms
    → ((inputs : Run Value) → callee_in (envs_of inputs ns) c ≡ find_callee n (length ts) (env_at (envs_of inputs ns) env))
    → callee_in (envs_of inputs ms) c ≡ find_callee n (trees_count (trees_of (map named ts))) (env_at (envs_of inputs ms) env)
called inputs ns ms n ts c env e h =
    subst (λ z. callee_in (envs_of inputs z) c ≡ find_callee n (length ts) (env_at (envs_of inputs z) env)) e (h inputs)
    ∙ ap (λ k. find_callee n k (env_at (envs_of inputs ms) env)) (sym (count_trees ts))

pub called_in_prelude : (inputs : Run Value) (ns ms : Nodes) (n : Name) (ts : List Tree) (c : Callee) (env : ℕ) → ns ≡ ms
    → ((inputs : Run Value) → callee_in (envs_of inputs ns) c ≡ find_in_prelude n (length ts) (env_at (envs_of inputs ns) env))
    → callee_in (envs_of inputs ms) c ≡ find_in_prelude n (trees_count (trees_of (map named ts))) (env_at (envs_of inputs ms) env)
called_in_prelude inputs ns ms n ts c env e h =
    subst (λ z. callee_in (envs_of inputs z) c ≡ find_in_prelude n (length ts) (env_at (envs_of inputs z) env)) e (h inputs)
    ∙ ap (λ k. find_in_prelude n k (env_at (envs_of inputs ms) env)) (sym (count_trees ts))
