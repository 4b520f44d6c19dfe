use Rattle.std.proofs.Common.{arith, rules}
use Rattle.std.proofs.lemmas.Grind.{common_steps}
use Rattle.jq_syntax.proofs.compiling.check_inputs.Goals as goal

pub returns-clause-fit : goal.returns-clause-fit
returns-clause-fit c = first_of (search rules, grind (arith, common_steps))
