-- The state after a transition.
use Rattle.std.proofs.Common.{◌≡◌, ◌∙◌, ◌<◌, ℕ, List, Result, IfOk, sym, ap, subst}
use Rattle.std.proofs.lemmas.Result.{IfOk-weaker}
use Rattle.jv_data.specs.Value.{Value}
use Rattle.jv_data.specs.declared.failures.NoMemory.{NoMemory}
use Rattle.jq_tree.specs.Tree.{Tree}
use Rattle.jq_meaning.specs.Env.{Env}
use Rattle.jq_meaning.specs.Runs.{Run}
use Rattle.jq_meaning.specs.Runs as runs
use Rattle.jq_meaning.specs.machine.State.{state, evaluate}
use Rattle.jq_meaning.specs.machine.State as machine
use Rattle.jq_meaning.specs.machine.Evaluating.{enter}
use Rattle.jq_state.specs.Environments.{envs_of, count_of}
use Rattle.jq_state.specs.Items.{item_of}
use Rattle.jq_state.specs.Links.{scope_in}
use Rattle.jq_state.specs.Nexts.{ComesTo, ComesWith}
use Rattle.jq_state.specs.Views.{envs_in, frames_in, forks_in}
use Rattle.jq_state.specs.declared.environments.Nodes.{Nodes}
use Rattle.jq_state.specs.declared.frames.Scope.{Scope}
use Rattle.jq_state.specs.declared.items.Item.{Item}
use Rattle.jq_state.specs.declared.next.Next.{Next}
use Rattle.jq_state.specs.declared.states.State.{State}
use Rattle.jq_transitions.specs.private.Entering.{Enters}

-- from the environments, the frames and the fork points
pub came : (next : List Env → machine.Next) (inputs : Run Value) (ns ms : Nodes) {k l : List machine.Frame} {fs gs : List machine.ForkPoint} → ms ≡ ns → l ≡ k → gs ≡ fs
    → state (next (envs_of inputs ms)) l gs ≡ state (next (envs_of inputs ns)) k fs
came next inputs ns ms {k} {l} {fs} {gs} e f g =
    ap (λ n. state (next (envs_of inputs n)) l gs) e ∙ ap (λ m. state (next (envs_of inputs ns)) m gs) f ∙ ap (λ hs. state (next (envs_of inputs ns)) k hs) g

-- a filter is evaluated
pub evaluates : (before after : State) (t : Tree) (p : Scope) (inputs : Run Value) {x y : runs.Item} {k : List machine.Frame} {fs : List machine.ForkPoint} → after.nodes ≡ before.nodes → x ≡ y
    → frames_in inputs after ≡ k → forks_in inputs after ≡ fs
    → state (evaluate t (scope_in (envs_in inputs after) p) x) (frames_in inputs after) (forks_in inputs after) ≡ state (evaluate t (scope_in (envs_in inputs before) p) y) k fs
evaluates before after t p inputs {x} {y} {k} {fs} e i f g =
    ap (λ z. state (evaluate t (scope_in (envs_in inputs after) p) z) (frames_in inputs after) (forks_in inputs after)) i
    ∙ came (λ envs. evaluate t (scope_in envs p) y) inputs before.nodes after.nodes e f g

-- an environment that still exists
pub still : {ns ms : Nodes} (i : ℕ) → ms ≡ ns → i < count_of ns → i < count_of ms
still {ns} {ms} i e h = subst (λ n. i < count_of n) (sym e) h

-- one run of the inputs is known
pub with_inputs : (before after : State) (p : Scope) (x : Item) (t f : Tree) (inputs : Run Value) (r : Result Next NoMemory) → t ≡ f → IfOk r (Enters f before p x after)
    → IfOk r (ComesWith inputs (enter t (scope_in (envs_in inputs before) p) (item_of x) (frames_in inputs before) (forks_in inputs before)) after)
with_inputs before after p x t f inputs r e =
    IfOk-weaker r _ _ (λ n h. (h.0, h.1 inputs ∙ ap (λ u. enter u (scope_in (envs_in inputs before) p) (item_of x) (frames_in inputs before) (forks_in inputs before)) (sym e)))

-- a callee's outcome, for an equal goal
pub meets : (r : Result Next NoMemory) (f g : Run Value → machine.State) (s : State) → ((inputs : Run Value) → f inputs ≡ g inputs) → IfOk r (ComesTo f s) → IfOk r (ComesTo g s)
meets r f g s e = IfOk-weaker r _ _ (λ n h. (h.0, λ inputs. h.1 inputs ∙ e inputs))
