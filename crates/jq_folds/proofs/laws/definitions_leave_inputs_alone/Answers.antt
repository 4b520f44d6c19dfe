use Rattle.jq_folds.proofs.After.{left_alone}
use Rattle.jq_folds.proofs.laws.definitions_leave_inputs_alone.Goals as goal

pub returns : goal.returns
returns c = left_alone
