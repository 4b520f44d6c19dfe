use Rattle.jv_arith.specs.Errors.{not_whole}
use Rattle.jv_arith.proofs.errors.not_whole.Goals as goal

pub returns : goal.returns
unfolding not_whole
returns c = c.raise.ensures
