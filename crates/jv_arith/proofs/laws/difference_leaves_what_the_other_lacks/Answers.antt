use Rattle.jv_arith.proofs.Differences.{item_gone, item_stays}
use Rattle.jv_arith.proofs.laws.difference_leaves_what_the_other_lacks.Goals as goal

pub returns-clause-gone : goal.returns-clause-gone
returns-clause-gone c = item_gone

pub returns-clause-stays : goal.returns-clause-stays
returns-clause-stays c = item_stays
