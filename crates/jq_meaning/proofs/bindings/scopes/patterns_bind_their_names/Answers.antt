use Rattle.jq_meaning.proofs.environments.Patterns.{patterns_bind, item_patterns_bind, member_patterns_bind, sources_bind}
use Rattle.jq_meaning.proofs.bindings.scopes.patterns_bind_their_names.Goals as goal

pub returns : goal.returns
returns c = record { whole = patterns_bind; items = item_patterns_bind; members = member_patterns_bind; source = sources_bind }
