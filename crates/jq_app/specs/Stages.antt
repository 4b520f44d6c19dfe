-- Where a command is: its streams, its files and the counts of its starts.
use Rattle.std.specs.Prelude.{◌+◌, ℕ, List, Option}
use Rattle.jq_devices.specs.Files.{bytes_left, opener_of}
use Rattle.jq_devices.specs.Watched.{device_of}
use Rattle.jq_devices.specs.declared.opener.Opener as opener
use Rattle.jq_devices.specs.declared.reader.FileReader.{FileReader}
use Rattle.jq_devices.specs.declared.reader.UnnamedFiles.{UnnamedFiles}
use Rattle.jq_devices.specs.declared.traits.Read as reader
use Rattle.jq_devices.specs.declared.watched.Watched.{Watched}
use Rattle.jq_starts.specs.Starts.{starts_in}
use Rattle.jq_stream.specs.Streams.{Streams}
use Rattle.jq_stream.specs.Views.{StreamsView}
use Rattle.jq_app.specs.declared.counts.Counts.{Counts}

-- the bytes of a file by its name, if they are known
abbrev pub Content : Type 0
Content = List ℕ → Option (List ℕ)

-- the files of a command: the bytes of each by its name, and those that the reader of the named ones has left at the end
pub record Files : Type 0 where
  pub content : Content
  pub left : Option (List ℕ)

abbrev pub files_of : Content → Option (List ℕ) → Files
files_of content left = record { content = content; left = left }

-- the same by the opener before the command and the reader of the named files after it
abbrev pub files_by : {F G : Type 0} → opener.Ghosts F G → reader.Ghosts G → UnnamedFiles F → Watched (FileReader F G) → Files
files_by opening file unnamed named = files_of (opening.content (opener_of unnamed)) (bytes_left opening.content file.remaining (device_of named))

-- how often the filters of a command were started
abbrev pub started_in : Counts → ℕ
started_in c = starts_in c.starts + starts_in c.spare

-- the streams of a command, and how often its filters were started
pub record Stage : Type 0 where
  pub streams : Streams
  pub starts : ℕ

abbrev pub stage : Streams → ℕ → Stage
stage s n = record { streams = s; starts = n }

-- the same by the devices and the counts
abbrev pub stage_of : {I : Type 0} → StreamsView I → Counts → Stage
stage_of devices counts = stage devices.bytes (started_in counts)
