use Rattle.jq_meaning.proofs.environments.Found.{bindings_named}
use Rattle.jq_meaning.proofs.bindings.lookups.bindings_have_their_names.Goals as goal

pub returns : goal.returns
returns c = bindings_named
