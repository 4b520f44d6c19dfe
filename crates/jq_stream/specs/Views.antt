-- What contracts see of the devices of a command.
use Rattle.std.specs.Prelude.{Bool}
use Rattle.jq_stream.specs.Failures.{OutputFailures, StreamFailures}
use Rattle.jq_stream.specs.Streams.{Outputs, Streams}

-- both outputs: the bytes on each, the counts of their failed calls, and whether standard error has failed
pub record OutputsView : Type 0 where
  pub bytes : Outputs
  pub failures : OutputFailures
  pub errors_failed : Bool

-- The input itself; the bytes that it has left and those on both outputs; the counts of failed calls; and whether standard error has
-- failed.
pub record StreamsView (I : Type 0) : Type 0 where
  pub input : I
  pub bytes : Streams
  pub failures : StreamFailures
  pub errors_failed : Bool
