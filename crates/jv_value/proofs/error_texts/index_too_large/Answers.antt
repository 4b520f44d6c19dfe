use Rattle.jv_value.specs.ErrorTexts.{index_too_large}
use Rattle.jv_value.proofs.error_texts.index_too_large.Goals as goal

pub returns : goal.returns
unfolding index_too_large
returns c = c.raise.ensures
