use Rattle.jq_meaning.proofs.environments.Parts.{outer_stays, list_gives, list_gives_outermost}
use Rattle.jq_meaning.proofs.bindings.places.outer_places_stay.Goals as goal

pub returns-clause-stay : goal.returns-clause-stay
returns-clause-stay c = outer_stays

pub returns-clause-list : goal.returns-clause-list
returns-clause-list c = list_gives

pub returns-clause-outermost : goal.returns-clause-outermost
returns-clause-outermost c = list_gives_outermost
