-- Compiled filters that are folds.
use Rattle.std.specs.Prelude.{◌≡◌, ℕ, List, true}
use Rattle.jv_data.specs.Value.{Value}
use Rattle.jq_tree.specs.Filter.{fold}
use Rattle.jq_inputs.specs.Plans.{view_of}
use Rattle.jq_pages.specs.Contents.{folded_in}
use Rattle.jq_state.specs.Listed.{items_in}
use Rattle.jq_filters.specs.Filters.{IsFilterOf, filter_job}
use Rattle.jq_filters.specs.Outcomes.{on_null}
use Rattle.jq_filters.specs.Present.{values_outcome}
use Rattle.jq_filters.specs.declared.filters.Filter.{Filter}
use Rattle.jq_syntax.specs.Chosen.{Chosen}
use Rattle.jq_fold_steps.specs.Filters.{filter_fold, compiled_fold}
use Rattle.jq_fold_steps.specs.laws.Outcomes.{IsFoldable, IsOutcome}

-- A compiled filter with the plan of a fold is one, in the bindings of its program.
abbrev pub CompiledFoldsAreFoldable : Type 0
CompiledFoldsAreFoldable = (o : Chosen) (text : List ℕ) (f : Filter) → IsFilterOf o text f → view_of f.plan ≡ fold → IsFoldable f.tree.value (items_in f.bindings)

-- Its fold over any inputs writes what its one run on null writes, where `inputs` returns them.
abbrev pub CompiledFoldsWriteOutcomes : Type 0
CompiledFoldsWriteOutcomes = (f : Filter) (inputs : List Value) → view_of f.plan ≡ fold
    → IsOutcome f.settings.exit (folded_in (filter_fold f) inputs) (values_outcome (on_null true) (filter_job f) inputs)

-- A compiled filter's fold is that of its tree after the prelude.
abbrev pub FoldsComeAfterThePrelude : Type 0
FoldsComeAfterThePrelude = (o : Chosen) (text : List ℕ) (f : Filter) (h : IsFilterOf o text f)
    → filter_fold f ≡ compiled_fold o h.accepted.accepts.prelude h.accepted.accepts.tree
