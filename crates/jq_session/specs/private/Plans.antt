-- How a session follows the edits of a filter's inputs, in the code.
use Rattle.std.specs.Prelude.{◌≡◌, false, true}
use Rattle.jq_inputs.specs.Plans.{view_of}
use Rattle.jq_filters.specs.Filters.{filter_mode}
use Rattle.jq_filters.specs.Outcomes.{on_each, on_null}
use Rattle.jq_filters.specs.declared.filters.Filter.{Filter}
use Rattle.jq_tree.specs.Filter as filter
use Rattle.jq_session.specs.States.{filter_plan, whole}
use Rattle.jq_session.specs.declared.plans.Following.{Following}
use Rattle.jq_session.specs.declared.plans.Following.TheVariants as following

abbrev pub IsFollowing : Following → Filter → Type 0
IsFollowing following.Each f = (filter_mode f ≡ on_each) × (f.halts ≡ false)
IsFollowing following.Fold f = (filter_mode f ≡ on_null true) × (view_of f.plan ≡ filter.fold)
IsFollowing following.UntilHalt f = (filter_mode f ≡ on_each) × (f.halts ≡ true)
IsFollowing following.Whole f = filter_plan f ≡ whole
