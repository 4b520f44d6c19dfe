-- Forms of filters by their parts, and the bodies that calls run.
use Rattle.std.specs.Prelude.{◌≡◌, ℕ, List}
use Rattle.jv_data.specs.Value.{Value}
use Rattle.jq_ast.specs.Named.{named, named_as_pattern}
use Rattle.jq_ast.specs.declared.tree.Pattern.{Pattern}
use Rattle.jq_ast.specs.declared.tree.Tree.{Tree}
use Rattle.jq_tree.specs.Tree as form
use Rattle.jq_meaning.specs.Env.{Env}
use Rattle.jq_meaning.specs.Runs.{Run, Item}
use Rattle.jq_meaning.specs.machine.Evaluating.{enter, enter_body}
use Rattle.jq_meaning.specs.machine.State.{Frame, ForkPoint, state, evaluate}
use Rattle.jq_state.specs.Environments.{envs_of}
use Rattle.jq_state.specs.Links.{scope_in}
use Rattle.jq_state.specs.Nodes.{env_at}
use Rattle.jq_state.specs.declared.environments.Nodes.{Nodes}
use Rattle.jq_state.specs.declared.frames.Scope.{Scope}

abbrev pub bound_as : (source : Tree) → Pattern → (body : Tree) → form.Tree
bound_as source q body = form.bind_as (named source) (named_as_pattern q) (named body)

abbrev pub chosen : (condition holds fails : Tree) → form.Tree
chosen condition holds fails = form.choice (named condition) (named holds) (named fails)

-- The first transition of a filter evaluates this body in this scope.
abbrev pub RunsBody : Nodes → form.Tree → Scope → (body : Tree) → Scope → Type 0
RunsBody ns t p body q =
    (inputs : Run Value) (x : Item) (k : List Frame) (fs : List ForkPoint)
    → enter t (scope_in (envs_of inputs ns) p) x k fs ≡ state (evaluate (named body) (scope_in (envs_of inputs ns) q) x) k fs

-- A body in an environment is evaluated in this scope.
abbrev pub EntersIn : Scope → (env : ℕ) → Scope → Type 0
EntersIn p env q =
    (envs : List Env) (t : form.Tree) (x : Item) (k : List Frame) (fs : List ForkPoint) → enter_body p.depth t (env_at envs env) p.level x k fs ≡ state (evaluate t (scope_in envs q) x) k fs
