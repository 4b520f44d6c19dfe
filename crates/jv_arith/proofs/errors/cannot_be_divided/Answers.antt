use Rattle.jv_arith.specs.Errors.{cannot_be, cannot_be_divided}
use Rattle.jv_arith.proofs.errors.cannot_be_divided.Goals as goal

pub returns : goal.returns
unfolding cannot_be cannot_be_divided
returns c = c.raise_kinds.ensures
