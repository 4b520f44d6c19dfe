use Rattle.std.proofs.Common.{arith, rules}
use Rattle.std.proofs.lemmas.Grind.{common_steps}
use Rattle.jq_syntax.proofs.reading.tokens_within.Goals as goal

pub returns-in-Err-BadToken-clause-fault : goal.returns-in-Err-BadToken-clause-fault
returns-in-Err-BadToken-clause-fault c = first_of (search rules, grind (arith, common_steps))

pub returns-then-is_too_long-clause-fault : goal.returns-then-is_too_long-clause-fault
returns-then-is_too_long-clause-fault c = first_of (search rules, grind (arith, common_steps))
