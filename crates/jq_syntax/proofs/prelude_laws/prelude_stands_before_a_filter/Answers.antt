use Rattle.jq_syntax.proofs.Acceptance.{stands_before_a_filter}
use Rattle.jq_syntax.proofs.prelude_laws.prelude_stands_before_a_filter.Goals as goal

pub returns : goal.returns
returns c = stands_before_a_filter c.computed_tokens.ensures c.computed_tree.ensures c.one_reading.ensures.tokens
