use Rattle.jv_arith.specs.Errors.{cannot_be, cannot_be_added}
use Rattle.jv_arith.proofs.errors.cannot_be_added.Goals as goal

pub returns : goal.returns
unfolding cannot_be cannot_be_added
returns c = c.raise_kinds.ensures
