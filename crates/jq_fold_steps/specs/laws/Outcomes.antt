-- A fold writes what the one run of its filter writes.
use Rattle.std.specs.Prelude.{◌≡◌, ℕ, List, [], Bool, true}
use Rattle.jv_data.specs.Value.{Value}
use Rattle.jq_ast.specs.Named.{named}
use Rattle.jq_ast.specs.declared.tree.Tree.{Tree}
use Rattle.jq_tree.specs.Inputs.{FoldShape, InputsInPlace}
use Rattle.jq_state.specs.declared.environments.ProgramBinding.{ProgramBinding}
use Rattle.jq_folds.specs.Folding.{fold_in}
use Rattle.jq_folds.specs.laws.Reading.{LeavesInputsAlone}
use Rattle.jq_pages.specs.Folds.{Folded, all, output, errors}
use Rattle.jq_pages.specs.Contents.{folded_in}
use Rattle.jq_pages.specs.Totals.{totals}
use Rattle.jq_filters.specs.Outcomes.{Outcome, on_null}
use Rattle.jq_filters.specs.Pieces.{status_in}
use Rattle.jq_filters.specs.Present.{values_outcome}
use Rattle.jq_filters.specs.Runner.{job_in}
use Rattle.jq_filters.specs.declared.settings.Settings.{Settings}
use Rattle.jq_fold_steps.specs.Bindings.{env_in}
use Rattle.jq_fold_steps.specs.Folded.{fold_of}

-- The pieces of the fold, one after the other, are this outcome.
pub record IsOutcome {S : Type 0} (exit : Bool) (x : Folded S) (o : Outcome) : Type 0 where
  pub output : output x ≡ o.output
  pub errors : errors x ≡ o.errors
  pub status : status_in exit (totals (all x)) ≡ o.status

-- A filter with the plan of a fold whose `inputs` is in place, in bindings that leave `inputs` alone.
pub record IsFoldable (t : Tree) (bindings : List ProgramBinding) : Type 0 where
  pub shape : FoldShape [] (named t)
  pub in_place : InputsInPlace (named t)
  pub alone : LeavesInputsAlone (env_in bindings)

-- Its fold over any inputs writes what its one run on null writes, where `inputs` returns them.
abbrev pub FoldsWriteOutcomes : Type 0
FoldsWriteOutcomes = (s : Settings) (depth : ℕ) (t : Tree) (bindings : List ProgramBinding) (inputs : List Value) → IsFoldable t bindings
    → IsOutcome s.exit (folded_in (fold_of s.style depth (fold_in (named t) (env_in bindings))) inputs) (values_outcome (on_null true) (job_in s depth t bindings) inputs)
