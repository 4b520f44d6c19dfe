use Rattle.jv_value.specs.ErrorTexts.{not_slice_bounds}
use Rattle.jv_value.proofs.error_texts.not_slice_bounds.Goals as goal

pub returns : goal.returns
unfolding not_slice_bounds
returns c = c.raise.ensures
