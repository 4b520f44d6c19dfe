use Rattle.jq_parser.proofs.Ended.{parsed_is_the_tree}
use Rattle.jq_parser.proofs.laws.computed_tree.Goals as goal

pub returns : goal.returns
returns c = parsed_is_the_tree
