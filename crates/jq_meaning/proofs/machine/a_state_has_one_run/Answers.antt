use Rattle.jq_meaning.proofs.shared.machine.Uniqueness.{produces-one}
use Rattle.jq_meaning.proofs.machine.a_state_has_one_run.Goals as goal

pub returns : goal.returns
returns c = produces-one
