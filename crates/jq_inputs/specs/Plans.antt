-- The plans of the code as plans of the definitions.
use Rattle.jq_tree.specs.Filter as filter
use Rattle.jq_inputs.specs.declared.plans.Plan.{Plan}
use Rattle.jq_inputs.specs.declared.plans.Plan.TheVariants as plan

abbrev pub view_of : Plan → filter.Plan
view_of plan.PerInput = filter.per_input
view_of plan.Fold = filter.fold
view_of plan.Whole = filter.once
