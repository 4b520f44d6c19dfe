-- Runs on each input up to the first one that halts, input by input.
use Rattle.std.specs.Prelude.{List}
use Rattle.jv_data.specs.Value.{Value}
use Rattle.jq_fold_steps.specs.laws.Outcomes.{IsOutcome}
use Rattle.jq_pages.specs.Contents.{folded_in}
use Rattle.jq_filters.specs.Outcomes.{Job, on_each}
use Rattle.jq_filters.specs.Present.{values_outcome}
use Rattle.jq_session.specs.Halting.{halting_fold}

-- The pieces of these runs, one after the other, are the outcome of runs from scratch on each input.
abbrev pub PiecesUpToAHaltAreTheOutcome : Type 0
PiecesUpToAHaltAreTheOutcome = (job : Job) (vs : List Value) → IsOutcome job.exit (folded_in (halting_fold job) vs) (values_outcome on_each job vs)
