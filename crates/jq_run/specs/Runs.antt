-- What the calls that run a filter did, for a filter's text with its options and for a compiled filter.
use Rattle.std.specs.Prelude.{ℕ, List}
use Rattle.std.specs.Str.{chars}
use Rattle.jq_devices.specs.declared.faults.StreamFault.{StreamFault}
use Rattle.jq_filters.specs.Filters.{IsFilterOf}
use Rattle.jq_filters.specs.declared.filters.Filter.{Filter}
use Rattle.jq_stream.specs.Streams.{Streams}
use Rattle.jq_syntax.specs.Chosen.{Chosen, chosen}
use Rattle.jq_syntax.specs.declared.options.Options.{Options}
use Rattle.jq_run.specs.Filters.{HasRun, HasStopped, IsFilterDone, IsFilterStopped}

-- The filter with these bytes as its text ran under these options; or the reason why it is refused was written. The status is that of the
-- process.
abbrev pub IsTextDone : Options → (bytes : List ℕ) → (status : ℕ) → (old new : Streams) → Type 0
IsTextDone options bytes status old new = IsFilterDone (chosen options) (chars bytes) old new status

-- A fault stopped its runs, or the report of the reason.
abbrev pub IsTextStopped : Options → (bytes : List ℕ) → StreamFault → (old new : Streams) → Type 0
IsTextStopped options bytes fault old new = IsFilterStopped fault (chosen options) (chars bytes) old new

-- The compiled filter ran: under any options, each text that is accepted as this filter.
abbrev pub HasRunCompiled : Filter → (status : ℕ) → (old new : Streams) → Type 0
HasRunCompiled filter status old new = (o : Chosen) (text : List ℕ) → IsFilterOf o text filter → HasRun o text old new status

-- A fault stopped its runs.
abbrev pub HasStoppedCompiled : Filter → StreamFault → (old new : Streams) → Type 0
HasStoppedCompiled filter fault old new = (o : Chosen) (text : List ℕ) → IsFilterOf o text filter → HasStopped fault o text old new
