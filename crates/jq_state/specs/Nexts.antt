-- What is done next, and the machine's state that a run's state represents.
use Rattle.std.specs.Prelude.{◌≡◌, ℕ, ◌<◌, List}
use Rattle.jv_data.specs.Value.{Value}
use Rattle.jv_data.specs.View.{view}
use Rattle.jq_ast.specs.Named.{named, named_as_pattern}
use Rattle.jq_meaning.specs.Env.{Env}
use Rattle.jq_meaning.specs.Runs.{Run}
use Rattle.jq_meaning.specs.Runs as runs
use Rattle.jq_meaning.specs.machine.State as machine
use Rattle.jq_state.specs.Environments.{count_of}
use Rattle.jq_state.specs.Items.{item_of}
use Rattle.jq_state.specs.Links.{scope_in}
use Rattle.jq_state.specs.Steps.{binder_of, tasks_of}
use Rattle.jq_state.specs.Views.{envs_in, frames_in, forks_in}
use Rattle.jq_state.specs.declared.frames.Scope.{Scope}
use Rattle.jq_state.specs.declared.states.State.{State}
use Rattle.jq_state.specs.declared.next.Next.{Next}
use Rattle.jq_state.specs.declared.next.Remaining.{Remaining}
use Rattle.jq_state.specs.declared.next.Next.TheVariants as next
use Rattle.jq_state.specs.declared.next.Stop.{Stop}
use Rattle.jq_state.specs.declared.next.Stop.TheVariants as stop

abbrev pub stop_of : Stop → runs.Stop
stop_of stop.Deep = runs.deep
stop_of (stop.Halted exit) = runs.halted exit.value.status exit.value.bytes.items

abbrev pub next_in : List Env → Next → machine.Next
next_in envs (next.Evaluate t p x) = machine.evaluate (named t.now) (scope_in envs p) (item_of x)
next_in envs (next.Give x) = machine.give (item_of x)
next_in envs (next.Matching q v r p) = machine.matching (named_as_pattern q.now) (view v) (tasks_of r.value.tasks.items) (binder_of r.value.binder) (scope_in envs p)
next_in envs (next.Matched r p) = machine.matched (tasks_of r.value.tasks.items) (binder_of r.value.binder) (scope_in envs p)
next_in envs next.GoBack = machine.go_back
next_in envs (next.Raise v) = machine.raise (view v)
next_in envs (next.Leave level) = machine.leave level
next_in envs (next.Quit s) = machine.quit (stop_of s)

-- The environment in what is done next exists.
abbrev pub NextFits : (count : ℕ) → Next → Type 0
NextFits count (next.Evaluate t p x) = p.env < count
NextFits count (next.Give x) = Unit {0}
NextFits count (next.Matching q v r p) = p.env < count
NextFits count (next.Matched r p) = p.env < count
NextFits count next.GoBack = Unit {0}
NextFits count (next.Raise v) = Unit {0}
NextFits count (next.Leave level) = Unit {0}
NextFits count (next.Quit s) = Unit {0}

-- The machine's state that a run's state represents.
abbrev pub stands : (inputs : Run Value) → State → Next → machine.State
stands inputs s n = machine.state (next_in (envs_in inputs s) n) (frames_in inputs s) (forks_in inputs s)

-- After a transition, a run's state represents this state of the machine.
abbrev pub ComesTo : (goal : Run Value → machine.State) → State → Next → Type 0
ComesTo goal s n = NextFits (count_of s.nodes) n × ((inputs : Run Value) → stands inputs s n ≡ goal inputs)

-- The same for one run of `inputs`.
abbrev pub ComesWith : (inputs : Run Value) → (goal : machine.State) → State → Next → Type 0
ComesWith inputs goal s n = NextFits (count_of s.nodes) n × (stands inputs s n ≡ goal)

-- A transition in a scope, with frames and fork points.
abbrev pub Transition : Type 0
Transition = machine.Scope → List machine.Frame → List machine.ForkPoint → machine.State

-- a transition in a scope, with a state's frames and fork points
abbrev pub transition : State → Scope → Transition → Run Value → machine.State
transition s p go inputs = go (scope_in (envs_in inputs s) p) (frames_in inputs s) (forks_in inputs s)

-- what is done with a state's frames and fork points
abbrev pub on_stack : {A : Type 0} → State → (List machine.Frame → List machine.ForkPoint → A) → Run Value → A
on_stack s go inputs = go (frames_in inputs s) (forks_in inputs s)

-- a transition on what remains of a match: the tasks, and what follows them
abbrev pub on_remaining : {A : Type 0} → Remaining → (List machine.Task → machine.Binder → A) → A
on_remaining r go = go (tasks_of r.tasks.items) (binder_of r.binder)
