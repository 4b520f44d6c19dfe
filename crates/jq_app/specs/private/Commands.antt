-- What the calls that carry out a configuration or words did, each by what it takes.
use Rattle.std.specs.Prelude.{ℕ, List, String, map, string_bytes}
use Rattle.std.specs.declared.alloc.Global.{Global}
use Rattle.jq_cli.specs.Configuration.{shown}
use Rattle.jq_cli.specs.declared.configuring.Config.{Config}
use Rattle.jq_devices.specs.Watched.{failures_of}
use Rattle.jq_devices.specs.declared.faults.StreamFault.{StreamFault}
use Rattle.jq_devices.specs.declared.opener.Opener as opener
use Rattle.jq_devices.specs.declared.reader.UnnamedFiles.{UnnamedFiles}
use Rattle.jq_devices.specs.declared.traits.Read as reader
use Rattle.jq_devices.specs.declared.watched.Watched.{Watched}
use Rattle.jq_stream.specs.Views.{StreamsView}
use Rattle.jq_app.specs.Blaming.{failures}
use Rattle.jq_app.specs.Served.{IsConfigurationDone, IsServed}
use Rattle.jq_app.specs.Stages.{Files, Stage, files_by, stage_of}
use Rattle.jq_app.specs.Stopped.{CommandResult, IsConfigurationStopped, IsStopped}
use Rattle.jq_app.specs.declared.commands.Finished.{Finished}
use Rattle.jq_app.specs.declared.counts.Counts.{Counts}

-- ---- a configuration

-- What it asks for is done, or its filter is refused.
abbrev pub IsConfigDone : Config → Files → (status : ℕ) → (old new : Stage) → Type 0
IsConfigDone config files status old new = IsConfigurationDone files (shown config) old new status

-- A fault stopped it.
abbrev pub IsConfigStopped : Config → Files → StreamFault → (old new : Stage) → Type 0
IsConfigStopped config files fault old new = IsConfigurationStopped fault files (shown config) old new

-- ---- the words

-- What they ask for is done, or the reply to them was written.
abbrev pub AreWordsServed : (words : List (String Global)) → Files → (status : ℕ) → (old new : Stage) → Type 0
AreWordsServed words files status old new = IsServed files (map string_bytes words) old new status

-- A fault stopped it.
abbrev pub AreWordsStopped : (words : List (String Global)) → Files → StreamFault → (old new : Stage) → Type 0
AreWordsStopped words files fault old new = IsStopped fault files (map string_bytes words) old new

-- What they ask for is done, or a fault was reported. The failures of the files are counted from 0. The first two parameters say what the
-- opener and an open file tell.
abbrev pub HasReported : {F G R O E : Type 0} → opener.Ghosts F G → reader.Ghosts G → (words : List (String Global)) → UnnamedFiles F → Counts → StreamsView (Watched R) → Finished F R O E G → Type 0
HasReported opening file words unnamed counts old finished =
    CommandResult (files_by opening file unnamed finished.files) (map string_bytes words) (failures 0 old) (failures (failures_of finished.files) finished.streams)
    (stage_of old counts) (stage_of finished.streams finished.counts) finished.status
