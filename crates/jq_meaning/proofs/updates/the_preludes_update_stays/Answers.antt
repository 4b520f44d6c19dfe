use Rattle.jq_meaning.proofs.updating.Stays.{modify-stays}
use Rattle.jq_meaning.proofs.updates.the_preludes_update_stays.Goals as goal

pub returns : goal.returns
returns c = modify-stays
