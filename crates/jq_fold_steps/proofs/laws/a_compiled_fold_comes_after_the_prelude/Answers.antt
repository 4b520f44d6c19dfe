use Rattle.jq_fold_steps.proofs.Compiled.{after-prelude}
use Rattle.jq_fold_steps.proofs.laws.a_compiled_fold_comes_after_the_prelude.Goals as goal

pub returns : goal.returns
returns c = after-prelude c.functions_come_after_the_variables.ensures
