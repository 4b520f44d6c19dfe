use Rattle.std.proofs.Common.{length}
use Rattle.jv_data.specs.Value.{Value}
use Rattle.jq_meaning.specs.Runs.{Run, none}
use Rattle.jq_meaning.specs.Runs as runs
use Rattle.jq_state.specs.Views.{frames_in}
use Rattle.jq_engine.specs.private.Leading.{Advances, at_item}
use Rattle.jq_engine.proofs.through.skip_passing.Given as goal

-- the machine has advanced
abbrev pub invariant-frames : goal.invariant-frames
invariant-frames l = record { run : (inputs : Run Value) (x : runs.Item) → Advances (at_item inputs l.initial.state x) (at_item inputs l.state x) }

abbrev pub decreases-frames : goal.decreases-frames
decreases-frames l = length (frames_in none l.state)
