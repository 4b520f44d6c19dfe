use Rattle.std.proofs.Common.{◌≡◌, ◌<◌, ◌++◌, List, ℕ, [], false, length}
use Rattle.std.specs.Io.KnownBytes.{Keeps}
use Rattle.jq_devices.specs.Files.{has_failed, is_open, bytes_left, unopened}
use Rattle.jq_devices.proofs.reader.FileReader.read_next.Given as goal

abbrev pub invariant-loop-len : goal.invariant-loop-len
invariant-loop-len g l = record {
  bytes : Keeps (bytes_left g.O.Opener.content g.O.File.Read.remaining l.fn.self) (bytes_left g.O.Opener.content g.O.File.Read.remaining l.self);
  opened : (names : List (List ℕ)) × (unopened l.fn.self ≡ names ++ unopened l.self);
  ended : unopened l.fn.self ≡ [] → is_open l.fn.self ≡ false → l.self ≡ l.fn.self;
  failed : has_failed l.self ≡ has_failed l.fn.self;
  room : 0 < length l.buf;
}

abbrev pub decreases-loop-len : goal.decreases-loop-len
decreases-loop-len g l = length (unopened l.self)
