use Rattle.jq_meaning.proofs.shared.machine.Kept.{produces-at_once}
use Rattle.jq_meaning.proofs.machine.a_filter_may_run_at_once.Goals as goal

pub returns : goal.returns
returns c = produces-at_once
