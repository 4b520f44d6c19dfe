use Rattle.jv_cut.specs.Text.{too_deep}
use Rattle.jv_cut.proofs.Fronts.{ends_exactly}
use Rattle.jv_cut.proofs.laws.a_text_too_deep_has_a_front_too_deep.Goals as goal

pub returns : goal.returns
returns c = λ later x xs b. ends_exactly later x xs too_deep b
