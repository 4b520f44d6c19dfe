-- The texts of a whole input.
use Rattle.std.specs.Prelude.{◌≡◌, ℕ, List, true, false, Option, Some, None, Result, Ok, Err}
use Rattle.jv_data.specs.Value.{Value, string}
use Rattle.jv_text.specs.Stream.{stream}
use Rattle.jv_text.specs.declared.faults.Fault.{Fault}
use Rattle.jq_meaning.specs.Runs as runs
use Rattle.jv_text.specs.FaultWords.{fault_text}
use Rattle.jq_devices.specs.declared.faults.StreamFault.{StreamFault}
use Rattle.jq_devices.specs.declared.faults.StreamFault.TheVariants.{Read, Write, NoMemory}
use Rattle.jq_stream.specs.Stopped.{IsPart}
use Rattle.jq_devices.specs.Reading.{IsWhole}
use Rattle.jq_stream.specs.Texts.{EndsAs}

-- These are the values of all texts, up to a faulty one, or those in front of a read fault.
abbrev pub IsGathered : Result (Option Fault) StreamFault → List Value → Option (List ℕ) → Option (List ℕ) → Type 0
IsGathered (Ok stop) values old new = (bytes : List ℕ) × IsWhole bytes old × EndsAs (stream true bytes) values stop
IsGathered (Err Read) values old new = (read : List ℕ) × IsPart read old new × ((stream false read).values ≡ values)
IsGathered (Err Write) values old new = ⊥
IsGathered (Err NoMemory) values old new = Unit {0}

-- how `inputs` ends
abbrev pub stop_ending : Option Fault → runs.Ending
stop_ending (Some f) = runs.Raised (string (fault_text f))
stop_ending None = runs.Done
