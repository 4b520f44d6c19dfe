-- The body of a function, the environment that its arguments make, and the names of the language.
use Rattle.std.specs.Prelude.{◌≡◌, ℕ, List, String, map}
use Rattle.std.specs.declared.alloc.Global.{Global}
use Rattle.jv_data.specs.Text.{text_of}
use Rattle.jv_data.specs.Value.{Value}
use Rattle.jq_ast.specs.Named.{named}
use Rattle.jq_ast.specs.declared.tree.Function.{Function}
use Rattle.jq_ast.specs.declared.tree.Tree.{Tree}
use Rattle.jq_tree.specs.Tree.{Name, trees_of}
use Rattle.jq_tree.specs.Tree as form
use Rattle.jq_meaning.specs.Env.{Env, with_arguments}
use Rattle.jq_meaning.specs.Runs.{Run, Item}
use Rattle.jq_meaning.specs.machine.Evaluating as machine
use Rattle.jq_meaning.specs.machine.State.{Frame, ForkPoint, state}
use Rattle.jq_meaning.specs.machine.State as machine_state
use Rattle.jq_state.specs.Nexts.{ComesWith, next_in, on_stack, transition}
use Rattle.jq_state.specs.Nodes.{env_at}
use Rattle.jq_state.specs.Views.{envs_in}
use Rattle.jq_state.specs.declared.frames.Scope.{Scope}
use Rattle.jq_state.specs.declared.next.Next.{Next}
use Rattle.jq_state.specs.declared.states.State.{State}
use Rattle.jq_operations.specs.Language.{meaning_of}
use Rattle.jq_operations.specs.declared.named_builtins.Builtin.{Builtin}

-- What is done next on a body in an environment, whatever the frames and the fork points are.
abbrev pub EntersBody : Scope → form.Tree → (env : ℕ) → Item → Next → Type 0
EntersBody p t env x n = (envs : List Env) (k : List Frame) (fs : List ForkPoint) → state (next_in envs n) k fs ≡ machine.enter_body p.depth t (env_at envs env) p.level x k fs

-- a function's own environment, in which the parameters are bound to the arguments in the environment of the caller
abbrev pub arguments_env : State → List (String Global) → List Tree → (caller own : ℕ) → Run Value → Env
arguments_env s ps ts caller own inputs = with_arguments (map text_of ps) (trees_of (map named ts)) (env_at (envs_in inputs s) caller) (env_at (envs_in inputs s) own)

-- The later state has this environment.
abbrev pub BindsArguments : (old new : State) → List (String Global) → List Tree → (caller own env : ℕ) → Type 0
BindsArguments old new ps ts caller own env = (inputs : Run Value) → env_at (envs_in inputs new) env ≡ arguments_env old ps ts caller own inputs

-- the body of a function is run on the arguments of a call
abbrev pub function_entered : State → Scope → Function Tree → (own : ℕ) → List Tree → Item → Run Value → machine_state.State
function_entered s p f own ts x inputs = on_stack s (machine.enter_body p.depth (named f.body) (arguments_env s f.parameters.items ts p.env own inputs) p.level x) inputs

-- If a filter is a call of these arguments, its first transition is that of the name that the builtin is.
abbrev pub EntersBuiltin : Run Value → (old new : State) → Scope → Tree → List Tree → Builtin → Item → Next → Type 0
EntersBuiltin inputs old new p t ts b x n =
    (m : Name) → named t ≡ form.call m (trees_of (map named ts)) → ComesWith inputs (transition old p (λ q. machine.enter_builtin (meaning_of b) m (trees_of (map named ts)) q x) inputs) new n
