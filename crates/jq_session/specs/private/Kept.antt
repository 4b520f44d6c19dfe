-- What the pages of a session are for.
use Rattle.std.specs.Prelude.{◌≡◌, ℕ, List, length, Ok}
use Rattle.jv_data.specs.Value.{Value}
use Rattle.jq_fold_steps.specs.laws.Outcomes.{IsOutcome}
use Rattle.jq_pages.specs.Changes.{IsChange, IsRerun, IsStart}
use Rattle.jq_pages.specs.Contents.{folded_in}
use Rattle.jq_pages.specs.Edits.{Edit, edited}
use Rattle.jq_pages.specs.Folds.{Fold}
use Rattle.jq_pages.specs.Moves.{IsRerunTwice}
use Rattle.jq_pages.specs.Splices.{came}
use Rattle.jq_pages.specs.declared.changes.Change.{Change}
use Rattle.jq_filters.specs.declared.filters.Filter.{Filter}
use Rattle.jq_session.specs.Splices.{IsPut, PutsPieces}
use Rattle.jq_session.specs.Starts.{AllowedMove, AllowedStarts, IsFirstRun}
use Rattle.jq_session.specs.States.{filter_plan, outcome, state_in}
use Rattle.jq_session.specs.declared.splices.Follow.{Follow}

-- Pages of this fold serve a session of the filter. Over any inputs their pieces are what its runs write, and what an edit of them
-- runs and changes is what the session's plan allows.
pub record Serves {S : Type 0} (f : Filter) (x : Fold S) : Type 0 where
  pub writes : (vs : List Value) → IsOutcome f.settings.exit (folded_in x vs) (outcome (state_in f vs))
  pub first : (vs : List Value) (a b : ℕ) → IsStart x (length vs) a b → IsFirstRun (state_in f vs) a b
  pub starts : (edit : Edit) (vs ws : List Value) (a b : ℕ) → IsRerun edit (folded_in x vs) (folded_in x ws) a b
      → AllowedStarts (filter_plan f) edit (state_in f vs) (state_in f ws) a b
  pub moves : (k l : ℕ) (vs ws : List Value) (a b : ℕ) → IsRerunTwice k l (folded_in x vs) (folded_in x ws) a b
      → AllowedMove (filter_plan f) k l (state_in f vs) (state_in f ws) a b
  pub puts : (edit : Edit) (vs ws : List Value) (c : Change) (w : Follow) → edited edit vs ≡ Ok ws → IsChange c edit (folded_in x vs) (folded_in x ws)
      → PutsPieces w (came c (folded_in x ws)) → IsPut (filter_plan f) edit w (state_in f vs) (state_in f ws)
