use Rattle.jq_meaning.proofs.updating.Updates.{updates-are-turns}
use Rattle.jq_meaning.proofs.updates.an_update_is_its_turns.Goals as goal

pub returns : goal.returns
returns c = updates-are-turns
