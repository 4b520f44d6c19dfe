use Rattle.jv_arith.specs.Errors.{cannot_be_negated}
use Rattle.jv_arith.proofs.errors.cannot_be_negated.Goals as goal

pub returns : goal.returns
unfolding cannot_be_negated
returns c = c.raise_kind.ensures
