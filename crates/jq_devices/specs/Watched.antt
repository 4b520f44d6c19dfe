-- Readers and writers whose failures are counted.
use Rattle.std.specs.Prelude.{◌≤◌, ◌<◌, ◌⊎◌, ◌^◌, ◌-◌, ℕ}
use Rattle.jq_devices.specs.declared.watched.Watched.{Watched}

-- the reader or writer
abbrev pub device_of : {T : Type 0} → Watched T → T
device_of w = w.device

-- the number of its calls that failed
abbrev pub failures_of : {T : Type 0} → Watched T → ℕ
failures_of w = w.failures

-- the number of reads that it still allows
abbrev pub reads_left : {T : Type 0} → Watched T → ℕ
reads_left w = w.reads_left

-- A count of failed calls rose, or it has its greatest value.
abbrev pub HasFailed : (old new : ℕ) → Type 0
HasFailed old new = (old < new) ⊎ (2 ^ 64 - 1 ≤ new)
