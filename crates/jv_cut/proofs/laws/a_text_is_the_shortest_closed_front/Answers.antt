use Rattle.jv_cut.specs.Text.{ends}
use Rattle.jv_cut.proofs.Fronts.{ends_exactly}
use Rattle.jv_cut.proofs.laws.a_text_is_the_shortest_closed_front.Goals as goal

pub returns : goal.returns
returns c = λ later x xs n b. ends_exactly later x xs (ends n) b
