use Rattle.jq_fold_steps.proofs.Compiled.{foldable}
use Rattle.jq_fold_steps.proofs.laws.a_compiled_fold_is_foldable.Goals as goal

pub returns : goal.returns
returns c =
    foldable c.prelude_is_accepted.ensures.one c.prelude_leaves_inputs_alone.ensures.calls c.prelude_leaves_inputs_alone.ensures.names
    c.definitions_leave_inputs_alone.ensures c.functions_come_after_the_variables.ensures
