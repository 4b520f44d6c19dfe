use Rattle.jq_folds.proofs.Ends.{begin-leads, step-leads, pieces-once}
use Rattle.jq_folds.proofs.Law.{state-values, next-value}
use Rattle.jq_folds.proofs.laws.states_and_endings_of_pieces.Goals as goal

pub returns : goal.returns
returns c = record { values = state-values; next = next-value; begin = begin-leads; step = step-leads; once = pieces-once }
