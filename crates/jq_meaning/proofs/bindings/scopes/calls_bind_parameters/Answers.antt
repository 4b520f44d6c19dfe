use Rattle.jq_meaning.proofs.environments.Calls.{calls_bind, bodies_keep, calls_add}
use Rattle.jq_meaning.proofs.bindings.scopes.calls_bind_parameters.Goals as goal

pub returns : goal.returns
returns c = record { names = calls_bind; body = bodies_keep; added = calls_add }
