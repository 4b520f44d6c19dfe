use Rattle.jq_parser.proofs.Ended.{tree_or_none}
use Rattle.jq_parser.proofs.laws.one_outcome.Goals as goal

pub returns : goal.returns
returns c = tree_or_none
