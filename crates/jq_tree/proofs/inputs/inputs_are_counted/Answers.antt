use Rattle.jq_tree.proofs.Counting.{inputs_counted}
use Rattle.jq_tree.proofs.inputs.inputs_are_counted.Goals as goal

pub returns : goal.returns
returns c = inputs_counted
