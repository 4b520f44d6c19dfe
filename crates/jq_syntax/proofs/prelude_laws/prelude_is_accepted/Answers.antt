use Rattle.jq_syntax.proofs.Acceptance.{accepted, one_prelude}
use Rattle.jq_syntax.proofs.prelude_laws.prelude_is_accepted.Goals as goal

pub returns-clause-accepted : goal.returns-clause-accepted
returns-clause-accepted c = accepted c.computed_tokens.ensures c.computed_tree.ensures

pub returns-clause-one : goal.returns-clause-one
returns-clause-one c = one_prelude c.computed_tokens.ensures c.computed_tree.ensures c.one_reading.ensures.tokens c.one_tree.ensures.filter
