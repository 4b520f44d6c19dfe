use Rattle.jv_arith.specs.Errors.{repeat_too_long}
use Rattle.jv_arith.proofs.errors.repeat_too_long.Goals as goal

pub returns : goal.returns
unfolding repeat_too_long
returns c = c.raise.ensures
