-- A state whose frames and fork points changed represents the machine's state.
use Rattle.std.proofs.Common.{◌≡◌, List, sym, ap, subst, ◌∙◌, Result, Ok, Err, IfOk}
use Rattle.jv_data.specs.Value.{Value}
use Rattle.jq_meaning.specs.Runs.{Run}
use Rattle.jq_meaning.specs.machine.State as machine
use Rattle.jq_state.specs.Environments.{count_of, envs_of}
use Rattle.jq_state.specs.Nexts.{next_in, NextFits, ComesTo, ComesWith}
use Rattle.jq_state.specs.Views.{envs_in, frames_in, forks_in}
use Rattle.jq_state.specs.declared.states.State.{State}
use Rattle.jq_state.specs.declared.next.Next.{Next}

pub comes : (old new : State) (n : Next) (m : Run Value → machine.Next) (k : Run Value → List machine.Frame) (fs : Run Value → List machine.ForkPoint)
    → new.nodes ≡ old.nodes → NextFits (count_of old.nodes) n → ((inputs : Run Value) → next_in (envs_in inputs old) n ≡ m inputs)
    → ((inputs : Run Value) → frames_in inputs new ≡ k inputs) → ((inputs : Run Value) → forks_in inputs new ≡ fs inputs)
    → ComesTo (λ inputs. machine.state (m inputs) (k inputs) (fs inputs)) new n
comes old new n m k fs e fits h p q = (subst (λ ns. NextFits (count_of ns) n) (sym e) fits, stood)
  where
    stood : (inputs : Run Value) → machine.state (next_in (envs_in inputs new) n) (frames_in inputs new) (forks_in inputs new) ≡ machine.state (m inputs) (k inputs) (fs inputs)
    stood inputs =
        ap (λ ns. machine.state (next_in (envs_of inputs ns) n) (frames_in inputs new) (forks_in inputs new)) e
        ∙ ap (λ i. machine.state i (frames_in inputs new) (forks_in inputs new)) (h inputs)
        ∙ ap (λ l. machine.state (m inputs) l (forks_in inputs new)) (p inputs)
        ∙ ap (machine.state (m inputs) (k inputs)) (q inputs)

-- ---- a callee's outcome, for an equal goal

pub same_goal : {E : Type 0} (r : Result Next E) (f g : Run Value → machine.State) (s : State) → ((inputs : Run Value) → f inputs ≡ g inputs)
    → IfOk r (λ n. ComesTo f s n) → IfOk r (λ n. ComesTo g s n)
same_goal (Ok n) f g s e h = (h.0, λ inputs. h.1 inputs ∙ e inputs)
same_goal (Err x) f g s e h = h

pub goal_with : {E : Type 0} (r : Result Next E) (f : Run Value → machine.State) (inputs : Run Value) (g : machine.State) (s : State) → f inputs ≡ g
    → IfOk r (λ n. ComesTo f s n) → IfOk r (λ n. ComesWith inputs g s n)
goal_with (Ok n) f inputs g s e h = (h.0, h.1 inputs ∙ e)
goal_with (Err x) f inputs g s e h = h
