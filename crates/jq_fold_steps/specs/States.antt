-- What the states in the code represent, and the fold of the steps.
use Rattle.jv_data.specs.View.{view}
use Rattle.jq_meaning.specs.Runs.{plain}
use Rattle.jq_folds.specs.Pieces as folds
use Rattle.jq_pages.specs.Folds as pages
use Rattle.jq_fold_steps.specs.Filters.{filter_fold}
use Rattle.jq_fold_steps.specs.declared.fold_steps.FoldState.{FoldState}
use Rattle.jq_fold_steps.specs.declared.fold_steps.FoldState.TheVariants as state
use Rattle.jq_fold_steps.specs.declared.fold_steps.FoldSteps.{FoldSteps}

abbrev pub state_in : FoldState → folds.FoldState
state_in (state.Going v) = folds.going (plain (view v))
state_in state.Stopped = folds.stopped

-- the fold whose pieces the steps make
abbrev pub fold_in_steps : FoldSteps → pages.Fold folds.FoldState
fold_in_steps s = filter_fold s.filter.value
