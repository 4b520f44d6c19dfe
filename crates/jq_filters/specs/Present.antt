-- The outcome of runs on values that are all present.
use Rattle.std.specs.Prelude.{ℕ, List, length}
use Rattle.jv_data.specs.Value.{Value}
use Rattle.jv_text.specs.Stream.{Values, clean}
use Rattle.jq_filters.specs.Outcomes.{Outcome, Mode, Job, runs_in, up_to_halt, stream_outcome}

-- a stream whose texts have these values, without a fault
abbrev pub present : List Value → Values
present values = record { values = values; end = clean }

-- what the runs on such a stream write, and their status
abbrev pub values_outcome : Mode → Job → List Value → Outcome
values_outcome mode job values = stream_outcome mode job (present values)

-- the number of these runs, up to the first one that halts
abbrev pub run_count : Mode → Job → List Value → ℕ
run_count mode job values = length (up_to_halt (runs_in mode job (present values)))
