use Rattle.jq_syntax.proofs.Outcomes.{outcome_once}
use Rattle.jq_syntax.proofs.laws.one_outcome.Goals as goal

pub returns : goal.returns
returns c = outcome_once c.one_reading.ensures.tokens c.one_reading.ensures.bad_token c.one_reading.ensures.not_both c.one_tree.ensures.filter c.prelude_is_accepted.ensures.one
