-- A run over a stream, mode by mode.
use Rattle.std.specs.Prelude.{ℕ}
use Rattle.jq_devices.specs.declared.faults.StreamFault.{StreamFault}
use Rattle.jq_filters.specs.Outcomes.{Mode}
use Rattle.jq_filters.specs.Runner.{job_of}
use Rattle.jq_filters.specs.declared.runner.Runner.{Runner}
use Rattle.jq_filters.specs.declared.settings.Settings.{Settings}
use Rattle.jq_stream.specs.Streams.{Streams, IsStreamRun}
use Rattle.jq_stream.specs.Stopped.{IsStreamStopped}

-- The outcome of this filter in this mode was written, and the answer is its status.
abbrev pub Runs : Mode → Settings → Runner → ℕ → (old new : Streams) → Type 0
Runs mode settings runner answer old new = IsStreamRun mode (job_of settings runner) old new answer

-- This fault stopped the runs of this filter in this mode.
abbrev pub Stops : StreamFault → Mode → Settings → Runner → (old new : Streams) → Type 0
Stops fault mode settings runner old new = IsStreamStopped fault mode (job_of settings runner) old new
