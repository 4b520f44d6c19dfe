use Rattle.jq_meaning.proofs.environments.Calls.{options_bind, options_add}
use Rattle.jq_meaning.proofs.bindings.scopes.options_bind_variables.Goals as goal

pub returns : goal.returns
returns c = record { names = options_bind; added = options_add }
