use Rattle.jv_arith.specs.Errors.{divisor_is_zero}
use Rattle.jv_arith.proofs.errors.divisor_is_zero.Goals as goal

pub returns : goal.returns
unfolding divisor_is_zero
returns c = c.raise.ensures
