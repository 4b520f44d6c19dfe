use Rattle.jv_arith.specs.Errors.{out_of_range}
use Rattle.jv_arith.proofs.errors.out_of_range.Goals as goal

pub returns : goal.returns
unfolding out_of_range
returns c = c.raise.ensures
