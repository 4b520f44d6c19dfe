use Rattle.std.proofs.Common.{◌≡◌, ℕ, List, length}
use Rattle.jq_devices.specs.Watched.{device_of, failures_of}
use Rattle.jq_script.specs.Serving.{progress, point_of}
use Rattle.jq_script.specs.private.Lines.{HasNoNewline, HasRead}
use Rattle.jq_script.proofs.Going.{IsAmid}
use Rattle.jq_script.proofs.serving.serve_bytes.Given as goal

abbrev pub invariant-loop-end : goal.invariant-loop-end
invariant-loop-end g l = record {
  amid : (begun : List ℕ) → HasNoNewline begun → HasRead l.fn.line begun
      → IsAmid l.fn.follow begun l.bytes l.rest l.line (progress (g.W.Write.contents (device_of l.fn.output)) (point_of l.fn.host)) (progress (g.W.Write.contents (device_of l.output)) (point_of l.host));
  unfailed : failures_of l.output ≡ failures_of l.fn.output;
}

abbrev pub decreases-loop-end : goal.decreases-loop-end
decreases-loop-end g l = length l.rest
