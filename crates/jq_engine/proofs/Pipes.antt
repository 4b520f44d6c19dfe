-- Items that go to the filter after a `|`.
use Rattle.std.proofs.Common.{◌≡◌, ◌∙◌, ◌∷◌, refl, sym, ap}
use Rattle.jv_data.specs.Value.{Value}
use Rattle.jq_tree.specs.Tree.{Tree}
use Rattle.jq_meaning.specs.Runs.{Run, Item}
use Rattle.jq_meaning.specs.machine.Machine.{step_of}
use Rattle.jq_meaning.specs.machine.State.{Frame, pipe_into, state, evaluate, give, moves}
use Rattle.jq_meaning.specs.machine.State as machine
use Rattle.jq_state.specs.Environments.{envs_of}
use Rattle.jq_state.specs.Links.{scope_in}
use Rattle.jq_state.specs.Views.{envs_in, frames_in, forks_in}
use Rattle.jq_state.specs.declared.frames.Scope.{Scope}
use Rattle.jq_state.specs.declared.states.State.{State}
use Rattle.jq_engine.proofs.Transitions.{gives}

-- a frame that was taken has the same scope in the environments that are left
pub taken : (inputs : Run Value) (s took : State) (f : machine.Scope → Frame) (q : Scope) → took.nodes ≡ s.nodes
    → frames_in inputs s ≡ f (scope_in (envs_in inputs s) q) ∷ frames_in inputs took → frames_in inputs s ≡ f (scope_in (envs_in inputs took) q) ∷ frames_in inputs took
taken inputs s took f q e h = h ∙ ap (λ ns. f (scope_in (envs_of inputs ns) q) ∷ frames_in inputs took) (sym e)

-- an item comes to the frame of `| t`
pub comes_to_pipe : (inputs : Run Value) (s took : State) (t : Tree) (q : Scope) (x : Item) → took.nodes ≡ s.nodes
    → frames_in inputs s ≡ pipe_into t (scope_in (envs_in inputs s) q) ∷ frames_in inputs took → forks_in inputs took ≡ forks_in inputs s
    → step_of (give x) (frames_in inputs s) (forks_in inputs s) ≡ moves (state (evaluate t (scope_in (envs_in inputs took) q) x) (frames_in inputs took) (forks_in inputs took))
comes_to_pipe inputs s took t q x e f g = gives x (taken inputs s took (pipe_into t) q e f) g refl
