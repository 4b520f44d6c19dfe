use Rattle.std.proofs.Common.{◌≡◌, ◌≤◌, ◌*◌, ◌-◌, ◌^◌, ℕ, List, false, map, vec_len}
use Rattle.std.specs.Io.KnownBytes.{Consumes}
use Rattle.jv_data.specs.View.{view}
use Rattle.jv_text.specs.Cutting.{HasGiven, AllGiven, is_finished, fed_count}
use Rattle.jq_devices.specs.Watched.{device_of, failures_of, reads_left}
use Rattle.jq_stream.proofs.gathering.gather.Given as goal

abbrev pub invariant-loop-piece : goal.invariant-loop-piece
invariant-loop-piece g l = record {
  given : (fed : List ℕ) × HasGiven l.cutter (map view l.values.items) fed × Consumes (g.R.Read.remaining (device_of l.fn.input)) (g.R.Read.remaining (device_of l.input)) fed
      × AllGiven false (map view l.values.items) fed;
  unended : is_finished l.cutter ≡ false;
  count : fed_count l.cutter ≤ (2 ^ 40 - reads_left l.input) * 65536;
  room : vec_len l.piece ≡ 65536;
  unfailed : failures_of l.input ≡ failures_of l.fn.input;
}

abbrev pub decreases-loop-piece : goal.decreases-loop-piece
decreases-loop-piece g l = reads_left l.input
