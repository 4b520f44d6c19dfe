-- The plan of a session.
use Rattle.std.specs.Prelude.{ℕ, List}
use Rattle.jq_filters.specs.Filters.{IsFilterOf, filter_mode}
use Rattle.jq_filters.specs.declared.filters.Filter.{Filter}
use Rattle.jq_syntax.specs.Chosen.{Chosen}
use Rattle.jq_session.specs.States.{IsPlanOf, filter_plan}

-- The plan of a compiled filter is that of its tree under the options.
abbrev pub PlansAreByTheTree : Type 0
PlansAreByTheTree = (o : Chosen) (text : List ℕ) (f : Filter) (h : IsFilterOf o text f)
    → IsPlanOf o (filter_mode f) h.accepted.accepts.prelude h.accepted.accepts.tree (filter_plan f)
