use Rattle.jv_value.specs.ErrorTexts.{slice_needs_array}
use Rattle.jv_value.proofs.error_texts.slice_needs_array.Goals as goal

pub returns : goal.returns
unfolding slice_needs_array
returns c = c.raise.ensures
