use Rattle.jq_meaning.proofs.shared.machine.Correct.{left}
use Rattle.jq_meaning.proofs.shared.machine.Kept.{left-falls}
use Rattle.jq_meaning.proofs.machine.a_number_falls.Goals as goal

pub returns : goal.returns
returns c = (left, left-falls)
