-- What a run over a stream reads and writes, and that it wrote its whole outcome.
use Rattle.std.specs.Prelude.{◌≡◌, ℕ, List, true, Option}
use Rattle.std.specs.Io.KnownBytes.{Appends}
use Rattle.jv_text.specs.Stream.{stream}
use Rattle.jq_devices.specs.Reading.{IsWhole}
use Rattle.jq_filters.specs.Outcomes.{Outcome, Mode, Job, stream_outcome}

-- the bytes on standard output and on standard error, if the writers' bytes are known
pub record Outputs : Type 0 where
  pub output : Option (List ℕ)
  pub errors : Option (List ℕ)

-- the bytes that the input has left, and those on both outputs
pub record Streams : Type 0 where
  pub remaining : Option (List ℕ)
  pub outputs : Outputs

abbrev pub outputs : Option (List ℕ) → Option (List ℕ) → Outputs
outputs output errors = record { output = output; errors = errors }

abbrev pub streams : Option (List ℕ) → Option (List ℕ) → Option (List ℕ) → Streams
streams remaining output errors = record { remaining = remaining; outputs = outputs output errors }

-- the bytes of this outcome were written
pub record Writes (outcome : Outcome) (old new : Outputs) : Type 0 where
  pub output : Appends old.output new.output outcome.output
  pub errors : Appends old.errors new.errors outcome.errors

-- the outcome of the runs on everything that the reader had left was written, and the answer is its status
abbrev pub IsStreamRun : Mode → Job → (old new : Streams) → ℕ → Type 0
IsStreamRun mode job old new answer =
    (input : List ℕ)
    × IsWhole input old.remaining
    × Writes (stream_outcome mode job (stream true input)) old.outputs new.outputs
    × (answer ≡ (stream_outcome mode job (stream true input)).status)
