-- What one transition comes to.
use Rattle.std.specs.Prelude.{◌≡◌, ⊤}
use Rattle.jv_data.specs.Value.{Value}
use Rattle.jv_data.specs.View.{view}
use Rattle.jq_meaning.specs.Runs.{Run}
use Rattle.jq_meaning.specs.Runs as runs
use Rattle.jq_meaning.specs.machine.State as machine
use Rattle.jq_state.specs.Environments.{count_of}
use Rattle.jq_state.specs.Items.{item_of}
use Rattle.jq_state.specs.Nexts.{NextFits, stands, stop_of}
use Rattle.jq_state.specs.declared.next.Next.TheVariants as next
use Rattle.jq_state.specs.declared.states.State.{State}
use Rattle.jq_transitions.specs.declared.backtracking.outcomes.Ending.{Ending}
use Rattle.jq_transitions.specs.declared.backtracking.outcomes.Ending.TheVariants as ending
use Rattle.jq_transitions.specs.declared.backtracking.outcomes.Progress.{Progress}
use Rattle.jq_transitions.specs.declared.backtracking.outcomes.Progress.TheVariants as progress

abbrev pub ending_of : Ending → runs.Ending
ending_of ending.Done = runs.Done
ending_of (ending.Raised v) = runs.Raised (view v)
ending_of (ending.Broken level) = runs.Broken level
ending_of (ending.Stopped stop) = runs.Stopped (stop_of stop)

-- The ending has neither a value nor bytes, so it is copied without memory.
abbrev pub IsBare : runs.Ending → Type 0
IsBare runs.Done = ⊤
IsBare (runs.Raised v) = ⊥
IsBare (runs.Broken level) = ⊤
IsBare (runs.Stopped runs.deep) = ⊤
IsBare (runs.Stopped (runs.halted status bytes)) = ⊥

-- The machine's transition is this one, and the state stands for what it leads to.
abbrev pub Steps : Run Value → machine.Progress → State → Progress → Type 0
Steps inputs goal s (progress.Moves n) = NextFits (count_of s.nodes) n × (goal ≡ machine.moves (stands inputs s n))
Steps inputs goal s (progress.Outputs x) = goal ≡ machine.outputs (item_of x) (stands inputs s next.GoBack)
Steps inputs goal s (progress.Finishes e) = goal ≡ machine.finishes (ending_of e)
