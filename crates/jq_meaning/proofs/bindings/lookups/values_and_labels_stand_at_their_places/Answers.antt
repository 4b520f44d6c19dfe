use Rattle.jq_meaning.proofs.environments.Found.{value_found, level_found}
use Rattle.jq_meaning.proofs.bindings.lookups.values_and_labels_stand_at_their_places.Goals as goal

pub returns : goal.returns
returns c = record { values = value_found; levels = level_found }
