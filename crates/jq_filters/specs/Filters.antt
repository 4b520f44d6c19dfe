-- A compiled filter: how it runs, and what it does with an input.
use Rattle.std.specs.Prelude.{ℕ, List}
use Rattle.jq_inputs.specs.Plans.{view_of}
use Rattle.jq_state.specs.Listed.{items_in}
use Rattle.jq_syntax.specs.Chosen.{Chosen}
use Rattle.jq_filters.specs.Compiled.{IsFilter}
use Rattle.jq_filters.specs.Outcomes.{Mode, Job}
use Rattle.jq_filters.specs.Runner.{mode_of, job_in}
use Rattle.jq_filters.specs.declared.filters.Filter.{Filter}

abbrev pub filter_mode : Filter → Mode
filter_mode f = mode_of f.settings.mode

abbrev pub filter_job : Filter → Job
filter_job f = job_in f.settings f.depth f.tree.value (items_in f.bindings)

-- The text is accepted as this filter.
abbrev pub IsFilterOf : Chosen → List ℕ → Filter → Type 0
IsFilterOf o text f = IsFilter o text f.settings f.depth f.tree.value (items_in f.bindings) (view_of f.plan) f.halts
