use Rattle.jq_meaning.proofs.environments.Found.{prelude_found, prelude_unbound}
use Rattle.jq_meaning.proofs.bindings.lookups.prelude_functions_stand_at_their_places.Goals as goal

pub returns : goal.returns
returns c = record { bound = prelude_found; unbound = prelude_unbound }
