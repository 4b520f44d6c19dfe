-- What a run of the command did with its words and its files, and on the standard input and both outputs.
use Rattle.std.specs.Prelude.{ℕ, List, Option, String, map, string_bytes}
use Rattle.std.specs.declared.alloc.Global.{Global}
use Rattle.jq_devices.specs.Watched.{failures_of}
use Rattle.jq_devices.specs.declared.opener.Opener as opener
use Rattle.jq_devices.specs.declared.reader.UnnamedFiles.{UnnamedFiles}
use Rattle.jq_devices.specs.declared.traits.Read as reader
use Rattle.jq_devices.specs.declared.watched.Watched.{Watched}
use Rattle.jq_stream.specs.Streams.{streams}
use Rattle.jq_stream.specs.Views.{StreamsView}
use Rattle.jq_app.specs.Blaming.{failures}
use Rattle.jq_app.specs.Explained.{IsShown, asks_for_notes}
use Rattle.jq_app.specs.Stages.{files_by, stage, stage_of, started_in}
use Rattle.jq_app.specs.Stopped.{CommandResult}
use Rattle.jq_app.specs.declared.commands.Finished.{Finished}
use Rattle.jq_app.specs.declared.counts.Counts.{Counts}

-- What the words ask for is done, or a fault was reported; `plain` are the bytes on standard error without notes. The failures of the
-- files are counted from 0. The first two parameters say what the opener and an open file tell.
abbrev pub HasRunWords : {F G R O E : Type 0} → opener.Ghosts F G → reader.Ghosts G → (words : List (String Global)) → UnnamedFiles F → Counts → StreamsView (Watched R) → Finished F R O E G → Type 0
HasRunWords opening file words unnamed counts old finished =
    (plain : Option (List ℕ))
    × IsShown (asks_for_notes (map string_bytes words)) finished.streams.errors_failed plain finished.streams.bytes.outputs.errors
    × CommandResult (files_by opening file unnamed finished.files) (map string_bytes words) (failures 0 old) (failures (failures_of finished.files) finished.streams)
    (stage_of old counts) (stage (streams finished.streams.bytes.remaining finished.streams.bytes.outputs.output plain) (started_in finished.counts)) finished.status
