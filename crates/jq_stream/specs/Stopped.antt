-- What is on both outputs if a fault of the devices or of memory stopped a run.
use Rattle.std.specs.Prelude.{◌≡◌, ◌⊎◌, ◌≤◌, ℕ, List, ◌++◌, length, true, false, Option, None}
use Rattle.std.specs.Io.KnownBytes.{Consumes}
use Rattle.jv_text.specs.Stream.{Values, fault, stream}
use Rattle.jv_text.specs.declared.faults.Fault.{Fault}
use Rattle.jq_devices.specs.Writing.{AppendsFirst, AppendsMore}
use Rattle.jq_devices.specs.declared.faults.StreamFault.{StreamFault}
use Rattle.jq_devices.specs.declared.faults.StreamFault.TheVariants.{Read, Write, NoMemory}
use Rattle.jq_filters.specs.Outcomes.{Outcome, Mode, on_each, Job, runs_in, first_halt, runs_printed, runs_reported, stream_outcome}
use Rattle.jq_filters.specs.Present.{present}
use Rattle.jq_devices.specs.Reading.{IsWhole}
use Rattle.jq_stream.specs.Streams.{Outputs, Streams, Writes}

-- The first bytes of this outcome were written on each output.
pub record WritesFirst (outcome : Outcome) (old new : Outputs) : Type 0 where
  pub output : AppendsFirst old.output new.output outcome.output
  pub errors : AppendsFirst old.errors new.errors outcome.errors

-- These bytes were read, and more may follow. No text in them is faulty.
pub record IsPart (read : List ℕ) (remaining_old remaining_new : Option (List ℕ)) : Type 0 where
  pub consumed : Consumes remaining_old remaining_new read
  pub no_fault : (f : Fault) → (stream false read).end ≡ fault f → ⊥

-- The values of the complete texts in such bytes, as if the input ended there.
abbrev pub whole_texts : List ℕ → Values
whole_texts read = present (stream false read).values

-- The outcome of the runs on the complete texts that were read was written. No run on an input halts: after a halt nothing is read.
abbrev pub IsReadStopped : Mode → Job → (old new : Streams) → Type 0
IsReadStopped mode job old new =
    (read : List ℕ) × IsPart read old.remaining new.remaining × Writes (stream_outcome mode job (whole_texts read)) old.outputs new.outputs
    × (mode ≡ on_each → first_halt (runs_in on_each job (whole_texts read)) ≡ None)

-- These are the values of the whole input, or of the complete texts that could be read of it.
abbrev pub IsFound : Values → (old new : Streams) → Type 0
IsFound found old new =
    ((input : List ℕ) × IsWhole input old.remaining × (found ≡ stream true input))
    ⊎ ((read : List ℕ) × IsPart read old.remaining new.remaining × (found ≡ whole_texts read))

-- The first bytes of the outcome of the runs on what was found were written.
abbrev pub IsWriteStopped : Mode → Job → (old new : Streams) → Type 0
IsWriteStopped mode job old new =
    (found : Values) × IsFound found old new × WritesFirst (stream_outcome mode job found) old.outputs new.outputs

-- What holds after each fault.
abbrev pub IsStreamStopped : StreamFault → Mode → Job → (old new : Streams) → Type 0
IsStreamStopped Read mode job old new = IsReadStopped mode job old new
IsStreamStopped Write mode job old new = IsWriteStopped mode job old new
IsStreamStopped NoMemory mode job old new = IsWriteStopped mode job old new

-- ---- one pass over the input

-- The bytes that were read are `answered` and a last piece. No text in `answered` is faulty, no run on a complete text of it halts, and
-- everything that these runs write was written; more may follow it. So a text that is faulty, or whose run halts, ends in the last piece.
pub record IsOnePass (job : Job) (old new : Streams) : Type 0 where
  pub answered : List ℕ
  pub piece : List ℕ
  pub consumed : Consumes old.remaining new.remaining (answered ++ piece)
  pub small : length piece ≤ 65536
  pub no_fault : (f : Fault) → (stream false answered).end ≡ fault f → ⊥
  pub no_halt : first_halt (runs_in on_each job (stream false answered)) ≡ None
  pub output : AppendsMore old.outputs.output new.outputs.output (runs_printed job.style (runs_in on_each job (stream false answered)))
  pub errors : AppendsMore old.outputs.errors new.outputs.errors (runs_reported (runs_in on_each job (stream false answered)))
