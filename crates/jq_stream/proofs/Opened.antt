-- The devices of a command, by their parts.
use Rattle.std.proofs.Common.{ℕ, List, Option}
use Rattle.jq_devices.specs.Watched.{device_of}
use Rattle.jq_devices.specs.declared.watched.Watched.{Watched}
use Rattle.jq_stream.specs.Streams.{Outputs, Streams}

-- the bytes that the input has left and those on both outputs
abbrev pub streams_by : {R : Type 0} → (left : R → Option (List ℕ)) → Watched R → Outputs → Streams
streams_by left input outputs = record { remaining = left (device_of input); outputs = outputs }
