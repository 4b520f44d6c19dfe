-- What the fault of a call that only writes says about both outputs.
use Rattle.std.specs.Prelude.{◌≡◌, ◌≤◌}
use Rattle.jq_devices.specs.declared.faults.StreamFault.{StreamFault}
use Rattle.jq_devices.specs.declared.faults.StreamFault.TheVariants.{Read, Write, NoMemory}
use Rattle.jq_stream.specs.Failures.{AnOutputHasFailed, OutputFailures}

-- A write fault: one of the outputs failed. Out of memory: none did. There is no read fault.
abbrev pub IsWriteBlamed : StreamFault → (old new : OutputFailures) → Type 0
IsWriteBlamed Read old new = ⊥
IsWriteBlamed Write old new = AnOutputHasFailed old new
IsWriteBlamed NoMemory old new = new ≡ old

-- No count fell.
pub record NoneFell (old new : OutputFailures) : Type 0 where
  pub output : old.output ≤ new.output
  pub errors : old.errors ≤ new.errors
