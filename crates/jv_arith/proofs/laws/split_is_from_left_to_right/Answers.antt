use Rattle.jv_arith.proofs.SplitLaws.{split_of-first, split_of-last, split_of-whole}
use Rattle.jv_arith.proofs.laws.split_is_from_left_to_right.Goals as goal

pub returns-clause-first : goal.returns-clause-first
returns-clause-first c = split_of-first

pub returns-clause-last : goal.returns-clause-last
returns-clause-last c = split_of-last

pub returns-clause-whole : goal.returns-clause-whole
returns-clause-whole c = split_of-whole
