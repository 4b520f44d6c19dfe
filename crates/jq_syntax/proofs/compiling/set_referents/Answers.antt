use Rattle.std.proofs.Common.{arith, rules}
use Rattle.std.proofs.lemmas.Grind.{common_steps}
use Rattle.jq_syntax.proofs.compiling.set_referents.Goals as goal

pub returns-clause-binders : goal.returns-clause-binders
returns-clause-binders c = first_of (search rules, grind (arith, common_steps))
