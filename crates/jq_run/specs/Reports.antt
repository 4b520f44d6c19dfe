-- A report on one of the outputs.
use Rattle.std.specs.Prelude.{◌≡◌, ◌⊎◌, ℕ, List, [], Option, Result, Ok, Err}
use Rattle.std.specs.Io.KnownBytes.{Appends}
use Rattle.jq_devices.specs.Writing.{AppendsFirst}
use Rattle.jq_devices.specs.declared.faults.StreamFault.{StreamFault}
use Rattle.jq_devices.specs.declared.faults.StreamFault.TheVariants as fault

-- These bytes were written, and the answer is this status; or, after a fault of the output, the
-- first of them; or memory ran out before.
abbrev pub IsReport : Result ℕ StreamFault → List ℕ → ℕ → Option (List ℕ) → Option (List ℕ) → Type 0
IsReport (Ok answer) bytes status old new = Appends old new bytes × (answer ≡ status)
IsReport (Err f) bytes status old new = ((f ≡ fault.Write) × AppendsFirst old new bytes) ⊎ ((f ≡ fault.NoMemory) × Appends old new [])
