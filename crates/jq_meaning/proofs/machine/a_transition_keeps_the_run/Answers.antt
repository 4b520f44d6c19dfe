use Rattle.jq_meaning.proofs.shared.machine.Kept.{keeps-moves, keeps-outputs, keeps-finishes}
use Rattle.jq_meaning.proofs.machine.a_transition_keeps_the_run.Goals as goal

pub returns : goal.returns
returns c = record { moves = keeps-moves; outputs = keeps-outputs; finishes = keeps-finishes }
