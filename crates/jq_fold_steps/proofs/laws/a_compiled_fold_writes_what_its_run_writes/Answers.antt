use Rattle.jq_fold_steps.proofs.Compiled.{writes}
use Rattle.jq_fold_steps.proofs.laws.a_compiled_fold_writes_what_its_run_writes.Goals as goal

pub returns : goal.returns
returns c = writes c.a_fold_writes_what_its_filter_writes.ensures c.a_compiled_fold_is_foldable.ensures
