-- Runs on values that are all present.
use Rattle.std.specs.Prelude.{◌≡◌, ℕ, List}
use Rattle.jv_data.specs.Value.{Value}
use Rattle.jq_filters.specs.Outcomes.{Mode, on_each, on_null, on_all, Job}
use Rattle.jq_filters.specs.Present.{values_outcome, run_count}
use Rattle.jq_filters.specs.Runner.{job_of}
use Rattle.jq_stream.specs.Streams.{Outputs, Writes}
use Rattle.jq_filters.specs.declared.runner.Runner.{Runner}
use Rattle.jq_filters.specs.declared.settings.Settings.{Settings}

-- the number of runs, mode by mode
abbrev pub runs_by_mode : Mode → Job → List Value → ℕ
runs_by_mode on_each job values = run_count on_each job values
runs_by_mode (on_null reads) job values = 1
runs_by_mode on_all job values = 1

-- Their outcome was written, and the answer is its status and the number of runs.
pub record IsValuesRun (mode : Mode) (job : Job) (values : List Value) (old new : Outputs) (answer : ℕ × ℕ) : Type 0 where
  pub written : Writes (values_outcome mode job values) old new
  pub status : answer.0 ≡ (values_outcome mode job values).status
  pub runs : answer.1 ≡ runs_by_mode mode job values

-- The same for this filter with these settings.
abbrev pub HasRunOn : Mode → Settings → Runner → List Value → (answer : ℕ × ℕ) → (old new : Outputs) → Type 0
HasRunOn mode settings runner values answer old new = IsValuesRun mode (job_of settings runner) values old new answer
