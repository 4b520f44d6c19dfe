-- What holds after a call if it returned a status, and if it returned a fault.
use Rattle.std.specs.Prelude.{ℕ, Result, IfOk, IfErr}
use Rattle.jq_devices.specs.Files.{bytes_left}
use Rattle.jq_devices.specs.Watched.{device_of}
use Rattle.jq_devices.specs.declared.faults.StreamFault.{StreamFault}
use Rattle.jq_devices.specs.declared.opener.Opener as opener
use Rattle.jq_devices.specs.declared.reader.FileReader.{FileReader}
use Rattle.jq_devices.specs.declared.reader.UnnamedFiles.{UnnamedFiles}
use Rattle.jq_devices.specs.declared.traits.Read as reader
use Rattle.jq_devices.specs.declared.watched.Watched.{Watched}
use Rattle.jq_stream.specs.Streams.{Streams}
use Rattle.jq_stream.specs.Views.{StreamsView}
use Rattle.jq_app.specs.Stages.{Files, Stage, files_by, stage_of}
use Rattle.jq_app.specs.declared.counts.Counts.{Counts}
use Rattle.jq_app.specs.declared.serving.Ended.{Ended}

-- ---- a call that serves a session

-- If it returned a status, this relation holds between the status and the stages before and after the call.
abbrev pub OnStatus : {I : Type 0} → Counts → StreamsView I → (result : Result ℕ StreamFault × Counts) → StreamsView I → (relation : (status : ℕ) → (old new : Stage) → Type 0) → Type 0
OnStatus counts old result new relation = IfOk result.0 (λ status. relation status (stage_of old counts) (stage_of new result.1))

-- If it returned a fault, this relation holds between the fault and the stages.
abbrev pub OnFault : {I : Type 0} → Counts → StreamsView I → (result : Result ℕ StreamFault × Counts) → StreamsView I → (relation : StreamFault → (old new : Stage) → Type 0) → Type 0
OnFault counts old result new relation = IfErr result.0 (λ fault. relation fault (stage_of old counts) (stage_of new result.1))

-- ---- a call that may read files, by what the opener and an open file tell

-- The same for its files, its status and the stages.
abbrev pub OnFilesStatus : {F G R O E : Type 0} → opener.Ghosts F G → reader.Ghosts G → UnnamedFiles F → Counts → StreamsView (Watched R) → Ended F R O E G
    → (relation : Files → (status : ℕ) → (old new : Stage) → Type 0) → Type 0
OnFilesStatus opening file unnamed counts old ended relation =
    IfOk ended.result (λ status. relation (files_by opening file unnamed ended.files) status (stage_of old counts) (stage_of ended.streams ended.counts))

-- For its files, its fault and the stages.
abbrev pub OnFilesFault : {F G R O E : Type 0} → opener.Ghosts F G → reader.Ghosts G → UnnamedFiles F → Counts → StreamsView (Watched R) → Ended F R O E G
    → (relation : Files → StreamFault → (old new : Stage) → Type 0) → Type 0
OnFilesFault opening file unnamed counts old ended relation =
    IfErr ended.result (λ fault. relation (files_by opening file unnamed ended.files) fault (stage_of old counts) (stage_of ended.streams ended.counts))

-- ---- a run over the files

-- the streams of a command with its files as the input: the bytes that they have left, and those on both outputs
abbrev pub over : {F G I : Type 0} → opener.Ghosts F G → reader.Ghosts G → Watched (FileReader F G) → StreamsView I → Streams
over opening file files devices = record { remaining = bytes_left opening.content file.remaining (device_of files); outputs = devices.bytes.outputs }
