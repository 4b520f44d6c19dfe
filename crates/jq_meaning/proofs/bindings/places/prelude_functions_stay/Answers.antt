use Rattle.jq_meaning.proofs.environments.Parts.{prelude_binders_stay, prelude_functions_stay}
use Rattle.jq_meaning.proofs.bindings.places.prelude_functions_stay.Goals as goal

pub returns : goal.returns
returns c = record { binders = prelude_binders_stay; functions = prelude_functions_stay }
