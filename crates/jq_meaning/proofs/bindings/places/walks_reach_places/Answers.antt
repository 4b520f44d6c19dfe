use Rattle.jq_meaning.proofs.environments.Walks.{steps_lead_outwards, walks_add}
use Rattle.jq_meaning.proofs.bindings.places.walks_reach_places.Goals as goal

pub returns-clause-step : goal.returns-clause-step
returns-clause-step c = steps_lead_outwards

pub returns-clause-both : goal.returns-clause-both
returns-clause-both c = walks_add
