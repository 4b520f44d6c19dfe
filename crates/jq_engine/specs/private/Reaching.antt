-- What a run comes to.
use Rattle.std.specs.Prelude.{◌≡◌, [], ◌∷◌}
use Rattle.jv_data.specs.Value.{Value}
use Rattle.jq_meaning.specs.Runs.{Run, before, ended}
use Rattle.jq_meaning.specs.Runs as runs
use Rattle.jq_meaning.specs.machine.Machine.{Produces}
use Rattle.jq_state.specs.Items.{item_of}
use Rattle.jq_state.specs.Nexts.{stands}
use Rattle.jq_state.specs.declared.next.Next.TheVariants as next
use Rattle.jq_state.specs.declared.states.State.{State}
use Rattle.jq_transitions.specs.Outcomes.{ending_of}
use Rattle.jq_engine.specs.Readiness.{CanGoOn}
use Rattle.jq_engine.specs.declared.running.Reached.{Reached}
use Rattle.jq_engine.specs.declared.running.Reached.TheVariants as reached

-- The run reached its first output, or its ending.
abbrev pub HasReached : Run Value → (rest : Run runs.Item) → State → Reached → Type 0
HasReached inputs rest s (reached.Output x) = (q : Run runs.Item) × (rest ≡ before (item_of x ∷ []) q) × Produces (stands inputs s next.GoBack) q
HasReached inputs rest s (reached.End e) = rest ≡ ended (ending_of e)

-- After an output, the run can go on.
abbrev pub IsReadyAfter : Run Value → State → Reached → Type 0
IsReadyAfter inputs s (reached.Output x) = CanGoOn inputs s next.GoBack
IsReadyAfter inputs s (reached.End e) = Unit {0}
