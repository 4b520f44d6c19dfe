use Rattle.std.proofs.Common.{◌≡◌, vec_len}
use Rattle.jq_devices.specs.Watched.{device_of, failures_of, reads_left}
use Rattle.jq_script.specs.Serving.{serving, point_of}
use Rattle.jq_script.proofs.Going.{Going}
use Rattle.jq_script.proofs.serving.serve.Given as goal

abbrev pub invariant-loop-line : goal.invariant-loop-line
invariant-loop-line g l = record {
  going : Going l.fn.follow (serving (g.R.Read.remaining (device_of l.fn.input)) (g.W.Write.contents (device_of l.fn.output)) (point_of l.fn.host))
      (serving (g.R.Read.remaining (device_of l.input)) (g.W.Write.contents (device_of l.output)) (point_of l.host)) l.line;
  room : vec_len l.piece ≡ 65536;
  input : failures_of l.input ≡ failures_of l.fn.input;
  output : failures_of l.output ≡ failures_of l.fn.output;
}

abbrev pub decreases-loop-line : goal.decreases-loop-line
decreases-loop-line g l = reads_left l.input
