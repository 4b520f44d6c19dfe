-- What a single run writes.
use Rattle.std.specs.Prelude.{◌≡◌, ℕ, List, [], ◌∷◌}
use Rattle.jv_data.specs.Value.{Value, array, items_of}
use Rattle.jq_meaning.specs.Runs.{Run, Item, none}
use Rattle.jq_filters.specs.Outcomes.{Outcome, runs_outcome}
use Rattle.jq_filters.specs.Running.{run_on}
use Rattle.jq_stream.specs.Streams.{Outputs, Writes}
use Rattle.jq_filters.specs.declared.runner.Runner.{Runner}
use Rattle.jq_filters.specs.declared.settings.Settings.{Settings}

-- the run on the array of these values, where `inputs` returns nothing
abbrev pub run_on_array : Runner → List Value → Run Item
run_on_array runner values = run_on runner none (array (items_of values))

-- the outcome of this run alone
abbrev pub run_outcome : Settings → Run Item → Outcome
run_outcome s r = runs_outcome s.style s.exit (r ∷ []) [] (λ status. status)

-- It was written, and the answer is its status.
pub record IsRunOnce (s : Settings) (r : Run Item) (answer : ℕ) (old new : Outputs) : Type 0 where
  pub written : Writes (run_outcome s r) old new
  pub status : answer ≡ (run_outcome s r).status
