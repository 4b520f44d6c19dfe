-- What is on both outputs if a fault of the devices or of memory stopped the command.
use Rattle.std.specs.Prelude.{◌≡◌, ◌⊎◌, ℕ, List, true, false}
use Rattle.std.specs.Str.{chars}
use Rattle.clap.specs.Words.{Text}
use Rattle.jq_cli.specs.Answers.{Asks}
use Rattle.jq_cli.specs.Configuration.{Configuration}
use Rattle.jq_devices.specs.Files.{contents}
use Rattle.jq_devices.specs.Faults.{fault_line}
use Rattle.jq_devices.specs.declared.faults.StreamFault.{StreamFault}
use Rattle.jq_devices.specs.declared.faults.StreamFault.TheVariants as fault
use Rattle.jq_filters.specs.Outcomes.{Outcome}
use Rattle.jq_stream.specs.Stopped.{WritesFirst}
use Rattle.jq_stream.specs.Streams.{Streams}
use Rattle.jq_app.specs.Blaming.{Failures, IsBlamed, IsWrittenUnlessFailed}
use Rattle.jq_run.specs.Filters.{IsFilterStopped, IsWritingStopped, NothingDone}
use Rattle.jq_app.specs.Served.{HasInput, IsReply, IsServed}
use Rattle.jq_app.specs.Sessions.{IsSessionStopped}
use Rattle.jq_app.specs.Stages.{Files, Stage}

-- A fault stopped what this configuration asks for.
abbrev pub IsConfigurationStopped : StreamFault → Files → Configuration → (old new : Stage) → Type 0
IsConfigurationStopped f files c old new =
    ((c.live ≡ false) × (from : Streams) × (to : Streams) × HasInput files c old.streams new.streams from to × IsFilterStopped f c.options (chars c.filter) from to)
    ⊎ ((c.live ≡ true) × IsSessionStopped f (contents files.content c.files) c.follow c.options (chars c.filter) old new)

-- A fault stopped the command with these words.
abbrev pub IsStopped : StreamFault → Files → List Text → (old new : Stage) → Type 0
IsStopped f files words old new =
    ((c : Configuration) × Asks words c × IsConfigurationStopped f files c old new)
    ⊎ ((outcome : Outcome) × IsReply words outcome × IsWritingStopped f outcome old.streams new.streams × (old.starts ≡ new.starts))
    ⊎ (NothingDone old.streams new.streams × (f ≡ fault.NoMemory) × (old.starts ≡ new.starts))

-- A device failed to which the fault belongs. After what was written before the fault comes the fault's line, or, if standard
-- error has failed at some time, the first bytes of the line. The status is 2.
abbrev pub IsReported : Files → List Text → (before after : Failures) → (old new : Stage) → ℕ → Type 0
IsReported files words before after old new answer =
    (f : StreamFault) × IsBlamed f before after × (stopped : Stage) × IsStopped f files words old stopped × (stopped.starts ≡ new.starts)
    × (stopped.streams.remaining ≡ new.streams.remaining) × (stopped.streams.outputs.output ≡ new.streams.outputs.output)
    × IsWrittenUnlessFailed (fault_line f) after.outputs.errors stopped.streams.outputs.errors new.streams.outputs.errors × (answer ≡ 2)

-- What the words ask for was done, or a fault was reported.
pub record CommandResult (files : Files) (words : List Text) (before after : Failures) (old new : Stage) (status : ℕ) : Type 0 where
  pub outcome : IsServed files words old new status ⊎ IsReported files words before after old new status
