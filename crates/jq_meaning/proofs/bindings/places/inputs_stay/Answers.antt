use Rattle.jq_meaning.proofs.environments.Calls.{inputs_in_calls}
use Rattle.jq_meaning.proofs.environments.Walks.{inputs_outwards, inputs_inwards}
use Rattle.jq_meaning.proofs.bindings.places.inputs_stay.Goals as goal

pub returns : goal.returns
returns c = record { outwards = inputs_outwards; inwards = inputs_inwards; calls = inputs_in_calls }
