-- A transition leads to the state that the machine's transition leads to.
use Rattle.std.proofs.Common.{◌≡◌, ◌∙◌, List, ap, sym, subst}
use Rattle.jv_data.specs.Value.{Value}
use Rattle.jq_meaning.specs.Runs.{Run}
use Rattle.jq_meaning.specs.machine.State as machine
use Rattle.jq_state.specs.Environments.{count_of, envs_of}
use Rattle.jq_state.specs.Nexts.{next_in, NextFits, ComesTo}
use Rattle.jq_state.specs.Views.{envs_in, frames_in, forks_in}
use Rattle.jq_state.specs.declared.next.Next.{Next}
use Rattle.jq_state.specs.declared.states.State.{State}

-- the environments are kept
pub came : (s t : State) (n : Next) {k : Run Value → List machine.Frame} {fs : Run Value → List machine.ForkPoint} {goal : Run Value → machine.State}
    → t.nodes ≡ s.nodes → NextFits (count_of s.nodes) n → ((inputs : Run Value) → frames_in inputs t ≡ k inputs) → ((inputs : Run Value) → forks_in inputs t ≡ fs inputs)
    → ((inputs : Run Value) → machine.state (next_in (envs_in inputs s) n) (k inputs) (fs inputs) ≡ goal inputs) → ComesTo goal t n
came s t n {k} {fs} {goal} e f p q r = (
  subst (λ ns. NextFits (count_of ns) n) (sym e) f,
  λ inputs.
      ap (λ ns. machine.state (next_in (envs_of inputs ns) n) (frames_in inputs t) (forks_in inputs t)) e
      ∙ ap (λ l. machine.state (next_in (envs_in inputs s) n) l (forks_in inputs t)) (p inputs)
      ∙ ap (machine.state (next_in (envs_in inputs s) n) (k inputs)) (q inputs)
      ∙ r inputs,
)

-- what is done next is computed in the environments after the transition
pub came_after : (t : State) (n : Next) {m : Run Value → machine.Next} {k : Run Value → List machine.Frame} {fs : Run Value → List machine.ForkPoint} {goal : Run Value → machine.State}
    → NextFits (count_of t.nodes) n → ((inputs : Run Value) → next_in (envs_in inputs t) n ≡ m inputs) → ((inputs : Run Value) → frames_in inputs t ≡ k inputs)
    → ((inputs : Run Value) → forks_in inputs t ≡ fs inputs) → ((inputs : Run Value) → machine.state (m inputs) (k inputs) (fs inputs) ≡ goal inputs) → ComesTo goal t n
came_after t n {m} {k} {fs} {goal} f o p q r = (
  f,
  λ inputs.
      ap (λ e. machine.state e (frames_in inputs t) (forks_in inputs t)) (o inputs)
      ∙ ap (λ l. machine.state (m inputs) l (forks_in inputs t)) (p inputs)
      ∙ ap (machine.state (m inputs) (k inputs)) (q inputs)
      ∙ r inputs,
)
