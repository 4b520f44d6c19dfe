use Rattle.jq_parser.proofs.Ended.{one_pipe, one_tree}
use Rattle.jq_parser.proofs.laws.one_tree.Goals as goal

pub returns-clause-filter : goal.returns-clause-filter
returns-clause-filter c = one_tree

pub returns-clause-phrase : goal.returns-clause-phrase
returns-clause-phrase c = one_pipe
