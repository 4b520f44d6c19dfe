use Rattle.jv_value.specs.ErrorTexts.{index_before_start}
use Rattle.jv_value.proofs.error_texts.index_before_start.Goals as goal

pub returns : goal.returns
unfolding index_before_start
returns c = c.raise.ensures
