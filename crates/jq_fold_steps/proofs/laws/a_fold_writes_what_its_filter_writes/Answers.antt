use Rattle.jq_fold_steps.proofs.Outcomes.{folds_write}
use Rattle.jq_fold_steps.proofs.laws.a_fold_writes_what_its_filter_writes.Goals as goal

pub returns : goal.returns
returns c = folds_write c.a_fold_is_its_pieces.ensures c.states_and_endings_of_pieces.ensures.once
