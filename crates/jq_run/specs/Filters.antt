-- What a command does with its filter (manual of jq 1.7, "Invoking jq").
use Rattle.std.specs.Prelude.{◌≡◌, ◌≢◌, ◌⊎◌, ℕ, List, [], ◌++◌, false}
use Rattle.std.specs.Io.KnownBytes.{Appends}
use Rattle.jq_syntax.specs.Chosen.{Chosen, setting}
use Rattle.jq_devices.specs.Faults.{line, error_start}
use Rattle.jq_devices.specs.declared.faults.StreamFault.{StreamFault}
use Rattle.jq_devices.specs.declared.faults.StreamFault.TheVariants as fault
use Rattle.jq_filters.specs.Accepted.{Accepts}
use Rattle.jq_filters.specs.Outcomes.{Mode, on_each, on_null, Job, Outcome}
use Rattle.jq_stream.specs.Streams.{Outputs, Streams, Writes, IsStreamRun}
use Rattle.jq_stream.specs.Stopped.{WritesFirst, IsStreamStopped, IsOnePass}
use Rattle.jq_syntax.specs.Compiled.{IsRefusal}
use Rattle.jq_syntax.specs.Reasons.{reason}
use Rattle.jq_syntax.specs.declared.faults.CompileFault.{CompileFault}
use Rattle.jq_syntax.specs.declared.faults.CompileFault.TheVariants as compile_fault

-- The filter was accepted, and the outcome of its runs on the whole input was written. Inputs are answered in one pass: if a run halts,
-- its text ends in the last piece that was read.
abbrev pub HasRun : Chosen → List ℕ → (old new : Streams) → ℕ → Type 0
HasRun o text old new answer =
    (mode : Mode) × (job : Job) × Accepts o text mode job × IsStreamRun mode job old new answer × (mode ≡ on_each → IsOnePass job old new)

-- nothing was written
abbrev pub NothingWritten : (old new : Streams) → Type 0
NothingWritten old new = Appends old.outputs.output new.outputs.output [] × Appends old.outputs.errors new.outputs.errors []

-- nothing was read or written
abbrev pub NothingDone : (old new : Streams) → Type 0
NothingDone old new = (old.remaining ≡ new.remaining) × NothingWritten old new

-- The filter was accepted, and a fault stopped its runs, in which inputs are answered in one
-- pass; or memory ran out before the first run, and nothing was read.
abbrev pub HasStopped : StreamFault → Chosen → List ℕ → (old new : Streams) → Type 0
HasStopped f o text old new =
    ((mode : Mode) × (job : Job) × Accepts o text mode job × IsStreamStopped f mode job old new × (mode ≡ on_each → IsOnePass job old new))
    ⊎ (NothingDone old new × (f ≡ fault.NoMemory))

-- ---- a filter that is accepted or refused

-- a line on standard error in place of a run, and the status
abbrev pub refusal : List ℕ → ℕ → Outcome
refusal message status = record { output = []; errors = line message; status = status }

-- The outcome in place of a run, if the filter is refused.
pub data IsRefusedFilter (o : Chosen) (text : List ℕ) : Outcome → Type 0 where
  refused : (f : CompileFault) → IsRefusal text (setting o) f → f ≢ compile_fault.NoMemory → IsRefusedFilter o text (refusal (error_start ++ reason f) 3)

-- The outcome was written, and the answer is its status.
abbrev pub IsAnswered : Outcome → (old new : Outputs) → ℕ → Type 0
IsAnswered outcome old new answer = Writes outcome old new × (answer ≡ outcome.status)

-- The filter ran; or nothing was read, and the reason why it is refused was written.
abbrev pub IsFilterDone : Chosen → List ℕ → (old new : Streams) → ℕ → Type 0
IsFilterDone o text old new answer =
    HasRun o text old new answer
    ⊎ ((old.remaining ≡ new.remaining) × (outcome : Outcome) × IsRefusedFilter o text outcome × IsAnswered outcome old.outputs new.outputs answer)

-- A fault stopped the runs; or nothing was read, and a fault stopped the report of the reason why the filter is refused; or memory ran out before.
abbrev pub IsFilterStopped : StreamFault → Chosen → List ℕ → (old new : Streams) → Type 0
IsFilterStopped f o text old new =
    HasStopped f o text old new
    ⊎ ((old.remaining ≡ new.remaining) × (outcome : Outcome) × IsRefusedFilter o text outcome × WritesFirst outcome old.outputs new.outputs × (f ≡ fault.Write))

-- The filter is accepted, and it runs on inputs.
abbrev pub FilterNeedsInput : Chosen → List ℕ → Type 0
FilterNeedsInput o text = (mode : Mode) × (job : Job) × Accepts o text mode job × (mode ≢ on_null false)

-- ---- what is written in place of a run

-- A fault stopped the writing of this outcome: the first bytes of it were written, or memory ran out before. Nothing was read in the second case.
abbrev pub IsWritingStopped : StreamFault → Outcome → (old new : Streams) → Type 0
IsWritingStopped f outcome old new = (WritesFirst outcome old.outputs new.outputs × (f ≡ fault.Write)) ⊎ (NothingDone old new × (f ≡ fault.NoMemory))
