use Rattle.jq_meaning.proofs.environments.Found.{callee_found, language_found}
use Rattle.jq_meaning.proofs.bindings.lookups.callees_stand_at_their_places.Goals as goal

pub returns : goal.returns
returns c = record { bound = callee_found; builtin = language_found }
