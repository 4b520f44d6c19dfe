use Rattle.jq_fold_steps.proofs.Compiled.{once-started}
use Rattle.jq_fold_steps.proofs.fold_steps.FoldSteps.new.Goals as goal

pub invariant_of-result : goal.invariant_of-result
invariant_of-result c = record { start = once-started c.args.filter.value c.requires }
