-- Filters of which a part is run first.
use Rattle.std.proofs.Common.{◌≡◌, ◌∙◌, ◌∷◌, List, sym, ap, subst}
use Rattle.jv_data.specs.Value.{Value}
use Rattle.jv_data.specs.View.{view}
use Rattle.jq_tree.specs.Tree.{Tree}
use Rattle.jq_meaning.specs.Meaning.{meaning}
use Rattle.jq_meaning.specs.Runs.{Run, Item, plain, as_value, Ending, one, ended}
use Rattle.jq_meaning.specs.machine.Machine.{step, step_of}
use Rattle.jq_meaning.specs.machine.Operations.{ending_next}
use Rattle.jq_meaning.specs.machine.State.{Frame, ForkPoint, Next, state, give}
use Rattle.jq_state.specs.Items.{item_of}
use Rattle.jq_state.specs.Links.{scope_in}
use Rattle.jq_state.specs.Nodes.{env_at}
use Rattle.jq_state.specs.Steps.{step_in}
use Rattle.jq_state.specs.Views.{envs_in, frames_in, forks_in}
use Rattle.jq_state.specs.declared.frames.Scope.{Scope}
use Rattle.jq_state.specs.declared.items.Item as items
use Rattle.jq_state.specs.declared.states.State.{State}
use Rattle.jq_state.specs.declared.steps.Step.{Step}
use Rattle.jq_state.proofs.shared.Items.{value_of_item}
use Rattle.jq_transitions.specs.declared.backtracking.outcomes.Progress.{Progress}
use Rattle.jq_engine.specs.private.Leading.{LeadsAfter, at_part, gives, ends, here, by_transition, by_run}
use Rattle.jq_transitions.specs.Outcomes.{Steps}

module _ (inputs : Run Value) (s : State) (t : Tree) (w : Step) (p : Scope) (x : Item) (u : State) (r : Progress) where
  abbrev frames : List Frame
  frames = step_in w (scope_in (envs_in inputs s) p) ∷ frames_in inputs s

  -- the part ran at once: it gave an item, or it ended
  pub part_gives : (y : Item) → meaning p.depth t (env_at (envs_in inputs s) p.env) p.level x ≡ one y → Steps inputs (step_of (give y) frames (forks_in inputs s)) u r → LeadsAfter inputs (at_part inputs s t w p x) u r
  part_gives y m h before e = record { from = state (give y) frames (forks_in inputs s); advances = by_transition e (by_run (gives y m) here); steps = λ f. h }

  pub part_ends : (d : Ending) → meaning p.depth t (env_at (envs_in inputs s) p.env) p.level x ≡ ended d → Steps inputs (step_of (ending_next d) frames (forks_in inputs s)) u r → LeadsAfter inputs (at_part inputs s t w p x) u r
  part_ends d m h before e = record { from = state (ending_next d) frames (forks_in inputs s); advances = by_transition e (by_run (ends d m) here); steps = λ f. h }

  -- the part does its first transition
  pub part_begins : Steps inputs (step (at_part inputs s t w p x)) u r → LeadsAfter inputs (at_part inputs s t w p x) u r
  part_begins h before e = record { from = at_part inputs s t w p x; advances = by_transition e here; steps = λ f. h }

-- a transition with equal frames and fork points
pub steps_at : (inputs : Run Value) (n : Next) (u : State) (r : Progress) {k l : List Frame} {fs gs : List ForkPoint} → k ≡ l → fs ≡ gs → Steps inputs (step_of n k fs) u r → Steps inputs (step_of n l gs) u r
steps_at inputs n u r {k} {l} {fs} {gs} e f h = subst (λ hs. Steps inputs (step_of n l hs) u r) f (subst (λ m. Steps inputs (step_of n m fs) u r) e h)

-- a copy of its value, without a path
pub value_alone : (x : items.Item) (v : Value) → v ≡ view x.value → as_value (item_of x) ≡ plain v
value_alone x v e = ap plain (value_of_item x ∙ sym e)
