use Rattle.jv_value.specs.ErrorTexts.{cannot_index}
use Rattle.jv_value.proofs.error_texts.cannot_slice.Goals as goal

pub returns : goal.returns
unfolding cannot_index
returns c = c.raise_with_kind.ensures
