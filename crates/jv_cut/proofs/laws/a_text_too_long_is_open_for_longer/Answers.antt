use Rattle.jv_cut.specs.Text.{too_long}
use Rattle.jv_cut.proofs.Fronts.{ends_exactly}
use Rattle.jv_cut.proofs.laws.a_text_too_long_is_open_for_longer.Goals as goal

pub returns : goal.returns
returns c = λ later x xs b. ends_exactly later x xs too_long b
