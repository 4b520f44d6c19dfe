use Rattle.std.proofs.Common.{arith, rules}
use Rattle.std.proofs.lemmas.Grind.{common_steps}
use Rattle.jq_syntax.proofs.compiling.plan_under.Goals as goal

pub returns : goal.returns
returns c = first_of (search rules, grind (arith, common_steps))
