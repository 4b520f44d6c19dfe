-- Lines of standard error, and how a fault of the devices or of memory is reported.
use Rattle.std.specs.Prelude.{◌≡◌, ◌≢◌, ◌⊎◌, ℕ, List, [], ◌∷◌, ◌++◌, None, codes}
use Rattle.std.specs.IoError.{error_kind, raw_os_error}
use Rattle.std.specs.declared.io.Error.{Error}
use Rattle.std.specs.declared.io.ErrorKind.TheVariants.{OutOfMemory}
use Rattle.jq_devices.specs.declared.faults.StreamFault.TheVariants.{Read, Write, NoMemory}
use Rattle.jq_devices.specs.declared.faults.StreamFault.{StreamFault}

-- a text and the end of its line
abbrev pub line : List ℕ → List ℕ
line text = text ++ (10 ∷ [])

-- the beginning of a line that reports an error
abbrev pub error_start : List ℕ
error_start = codes "jq: error: "

-- The fault for an error of a read: `NoMemory` if the reader itself ran out of memory, and `Read` for every other error, also if
-- the operating system reports that it has no memory.
abbrev pub IsReadFault : Error → StreamFault → Type 0
IsReadFault error Read = (error_kind error ≢ OutOfMemory) ⊎ (raw_os_error error ≢ None)
IsReadFault error Write = ⊥
IsReadFault error NoMemory = (error_kind error ≡ OutOfMemory) × (raw_os_error error ≡ None)

abbrev pub fault_line : StreamFault → List ℕ
fault_line Read = line (error_start ++ codes "read fault")
fault_line Write = line (error_start ++ codes "write fault")
fault_line NoMemory = line (error_start ++ codes "out of memory")
