use Rattle.jq_session.proofs.UpToHalt.{writes}
use Rattle.jq_session.proofs.laws.pieces_up_to_a_halt_are_the_outcome.Goals as goal

pub returns : goal.returns
returns c = writes
