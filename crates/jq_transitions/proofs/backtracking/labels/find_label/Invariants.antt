use Rattle.std.proofs.Common.{◌≡◌, List, length}
use Rattle.jv_data.specs.Value.{Value}
use Rattle.jq_meaning.specs.Runs.{Run, none}
use Rattle.jq_meaning.specs.machine.Machine.{find_label}
use Rattle.jq_meaning.specs.machine.State.{ForkPoint}
use Rattle.jq_state.specs.Views.{frames_in, forks_in}
use Rattle.jq_transitions.proofs.backtracking.labels.find_label.Given as goal

-- the label is in the frames that are left
abbrev pub invariant-frames : goal.invariant-frames
invariant-frames l = record {
  nodes : l.state.nodes ≡ l.initial.state.nodes;
  frames : (inputs : Run Value) (fs : List ForkPoint) → find_label l.level (frames_in inputs l.initial.state) fs ≡ find_label l.level (frames_in inputs l.state) fs;
  forks : (inputs : Run Value) → forks_in inputs l.state ≡ forks_in inputs l.initial.state;
}

abbrev pub decreases-frames : goal.decreases-frames
decreases-frames l = length (frames_in none l.state)
