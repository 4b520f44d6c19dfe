use Rattle.jv_cut.specs.Text.{unended}
use Rattle.jv_cut.proofs.Fronts.{ends_exactly}
use Rattle.jv_cut.proofs.laws.an_open_text_has_no_closed_front.Goals as goal

pub returns : goal.returns
returns c = λ later x xs b. ends_exactly later x xs unended b
