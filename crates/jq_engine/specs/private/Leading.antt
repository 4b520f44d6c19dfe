-- What a step comes to where filters of at most one output run at once.
use Rattle.std.specs.Prelude.{◌≡◌, ◌∷◌, List, Option, Some, None, Result, IfOk}
use Rattle.jv_data.specs.Value.{Value}
use Rattle.jq_tree.specs.Tree.{Tree}
use Rattle.jq_meaning.specs.Meaning.{meaning}
use Rattle.jq_meaning.specs.Runs.{Run, Item, plain, Ending, one, ended}
use Rattle.jq_meaning.specs.machine.Heights.{Fit}
use Rattle.jq_meaning.specs.machine.Machine.{step}
use Rattle.jq_meaning.specs.machine.Operations.{ending_next}
use Rattle.jq_meaning.specs.machine.State.{Frame, ForkPoint, state, evaluate, give, moves}
use Rattle.jq_meaning.specs.machine.State as machine
use Rattle.jv_data.specs.declared.failures.NoMemory.{NoMemory}
use Rattle.jq_single.specs.Single.{Ends, Leaves}
use Rattle.jq_single.specs.declared.stops.Stop.{Stop}
use Rattle.jq_state.specs.Links.{scope_in}
use Rattle.jq_state.specs.Nexts.{stands}
use Rattle.jq_state.specs.Nodes.{env_at}
use Rattle.jq_state.specs.Steps.{step_in}
use Rattle.jq_state.specs.Views.{envs_in, frames_in, forks_in}
use Rattle.jq_state.specs.declared.frames.Scope.{Scope}
use Rattle.jq_state.specs.declared.next.Next.TheVariants as next
use Rattle.jq_state.specs.declared.states.State.{State}
use Rattle.jq_state.specs.declared.steps.Step.{Step}
use Rattle.jq_transitions.specs.declared.backtracking.outcomes.Progress.{Progress}
use Rattle.jq_transitions.specs.Outcomes.{Steps}

-- A state, or the state after a filter in it was run at once.
pub data AtOnce : machine.State → machine.State → Type 0 where
  unchanged : {s : machine.State} → AtOnce s s
  gives : {t : Tree} {p : machine.Scope} {x : Item} {k : List Frame} {fs : List ForkPoint} (y : Item) → meaning p.depth t p.env p.level x ≡ one y → AtOnce (state (evaluate t p x) k fs) (state (give y) k fs)
  ends : {t : Tree} {p : machine.Scope} {x : Item} {k : List Frame} {fs : List ForkPoint} (e : Ending) → meaning p.depth t p.env p.level x ≡ ended e → AtOnce (state (evaluate t p x) k fs) (state (ending_next e) k fs)

-- A state, or a later one: after transitions, and after filters that were run at once.
pub data Advances : machine.State → machine.State → Type 0 where
  here : {s : machine.State} → Advances s s
  by_transition : {s t u : machine.State} → step s ≡ moves t → Advances t u → Advances s u
  by_run : {s t u : machine.State} → AtOnce s t → Advances t u → Advances s u

-- The machine's transition from the state itself, or from a later one, is this one. (Heights in range are an invariant of the machine.)
pub record Leads (inputs : Run Value) (before : machine.State) (s : State) (r : Progress) : Type 0 where
  pub from : machine.State
  pub advances : Advances before from
  pub steps : Fit from → Steps inputs (step from) s r

-- What a filter or an item comes to. `None` means that it ended, so that the machine goes back.
abbrev pub GoesOn : Run Value → (before : machine.State) → State → Option Progress → Type 0
GoesOn inputs before s None = Advances before (stands inputs s next.GoBack)
GoesOn inputs before s (Some r) = Leads inputs before s r

-- The same for each state that a transition leads to this one.
abbrev pub LeadsAfter : Run Value → (first : machine.State) → State → Progress → Type 0
LeadsAfter inputs first s r = (before : machine.State) → step before ≡ moves first → Leads inputs before s r

-- ---- items

-- The state in which an item is given.
abbrev pub at_item : Run Value → State → Item → machine.State
at_item inputs s x = state (give x) (frames_in inputs s) (forks_in inputs s)

-- The same where a frame waits for the item before the others.
abbrev pub at_frame : Run Value → State → Frame → Item → machine.State
at_frame inputs s f x = state (give x) (f ∷ frames_in inputs s) (forks_in inputs s)

-- The same where the frame has this step in this scope.
abbrev pub at_step : Run Value → State → Step → Scope → Item → machine.State
at_step inputs s w p x = at_frame inputs s (step_in w (scope_in (envs_in inputs s) p)) x

-- ---- filters of which a part is run first

-- The state in which a filter is evaluated in a scope on an item.
abbrev pub at_filter : Run Value → State → Tree → Scope → Item → machine.State
at_filter inputs s t p x = state (evaluate t (scope_in (envs_in inputs s) p) x) (frames_in inputs s) (forks_in inputs s)

-- The same where a frame of that scope waits for the output.
abbrev pub at_part : Run Value → State → Tree → Step → Scope → Item → machine.State
at_part inputs s t waits p x = let q = scope_in (envs_in inputs s) p in state (evaluate t q x) (step_in waits q ∷ frames_in inputs s) (forks_in inputs s)

-- A filter was run at once in a scope on a value, and had no output.
abbrev pub HasStopped : Run Value → State → Tree → Scope → Value → Stop → Type 0
HasStopped inputs s t p v stop = Ends stop (meaning p.depth t (env_at (envs_in inputs s) p.env) p.level (plain v))

-- What waits for a part that had no output, or was not run at once, goes on.
abbrev pub GoesOnAfter : Run Value → (before after : State) → Tree → Step → Scope → Stop → Value → Result Progress NoMemory → Type 0
GoesOnAfter inputs before after t waits p stop left result =
    (v : Value) → HasStopped inputs before t p v stop → Leaves stop v left → IfOk result (LeadsAfter inputs (at_part inputs before t waits p (plain v)) after)
