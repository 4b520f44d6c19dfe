-- Which devices failed if the command reports a fault.
use Rattle.std.specs.Prelude.{◌⊎◌, ⊤, ℕ, ◌<◌, List, Option}
use Rattle.std.specs.Io.KnownBytes.{Appends}
use Rattle.jq_devices.specs.Watched.{HasFailed}
use Rattle.jq_devices.specs.Writing.{AppendsFirst}
use Rattle.jq_devices.specs.declared.faults.StreamFault.{StreamFault}
use Rattle.jq_devices.specs.declared.faults.StreamFault.TheVariants.{Read, Write, NoMemory}
use Rattle.jq_stream.specs.Failures.{AnOutputHasFailed, OutputFailures}
use Rattle.jq_stream.specs.Views.{StreamsView}

-- the numbers of failures of the files, the standard input and both outputs
pub record Failures : Type 0 where
  pub files : ℕ
  pub input : ℕ
  pub outputs : OutputFailures

abbrev pub failures : {I : Type 0} → (files : ℕ) → StreamsView I → Failures
failures files devices = record { files = files; input = devices.failures.input; outputs = devices.failures.outputs }

-- A device failed to which the fault belongs. Memory may run out without such a failure.
abbrev pub IsBlamed : StreamFault → (old new : Failures) → Type 0
IsBlamed Read old new = HasFailed old.files new.files ⊎ HasFailed old.input new.input
IsBlamed Write old new = AnOutputHasFailed old.outputs new.outputs
IsBlamed NoMemory old new = ⊤

-- These bytes were written; or the first of them were, and the writer failed.
abbrev pub IsWritten : List ℕ → (failures_old failures_new : ℕ) → (old new : Option (List ℕ)) → Type 0
IsWritten bytes a b old new = Appends old new bytes ⊎ (AppendsFirst old new bytes × HasFailed a b)

-- These bytes were written; or the first of them were, and the writer has failed at some time.
abbrev pub IsWrittenUnlessFailed : List ℕ → (failures : ℕ) → (old new : Option (List ℕ)) → Type 0
IsWrittenUnlessFailed bytes n old new = Appends old new bytes ⊎ (AppendsFirst old new bytes × (0 < n))
