-- The runs of a filter with these settings over a stream.
use Rattle.std.specs.Prelude.{ℕ}
use Rattle.jq_devices.specs.declared.faults.StreamFault.{StreamFault}
use Rattle.jq_filters.specs.Runner.{job_of, mode_of}
use Rattle.jq_filters.specs.declared.runner.Runner.{Runner}
use Rattle.jq_filters.specs.declared.settings.Settings.{Settings}
use Rattle.jq_stream.specs.Stopped.{IsStreamStopped}
use Rattle.jq_stream.specs.Streams.{Streams, IsStreamRun}

-- Their outcome was written, and the answer is its status.
abbrev pub HasRun : Settings → Runner → (answer : ℕ) → (old new : Streams) → Type 0
HasRun settings runner answer old new = IsStreamRun (mode_of settings.mode) (job_of settings runner) old new answer

-- A fault stopped them.
abbrev pub HasStopped : StreamFault → Settings → Runner → (old new : Streams) → Type 0
HasStopped fault settings runner old new = IsStreamStopped fault (mode_of settings.mode) (job_of settings runner) old new
