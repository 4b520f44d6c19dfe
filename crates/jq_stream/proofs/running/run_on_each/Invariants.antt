use Rattle.std.proofs.Common.{◌≡◌, ◌≤◌, ◌*◌, ◌-◌, ◌^◌, ℕ, List, false, vec_len}
use Rattle.jv_data.specs.Value.{Value}
use Rattle.jv_text.specs.Cutting.{AllGiven, is_finished, fed_count}
use Rattle.jq_devices.specs.Watched.{failures_of, reads_left}
use Rattle.jq_filters.specs.Runner.{job_of}
use Rattle.jq_stream.proofs.Going.{Going}
use Rattle.jq_stream.proofs.Opened.{streams_by}
use Rattle.jq_stream.proofs.running.run_on_each.Given as goal

abbrev pub invariant-loop-piece : goal.invariant-loop-piece
invariant-loop-piece g l = record {
  going : (given : List Value) × (fed : List ℕ) × Going (job_of l.settings l.runner)
      l.fn.streams.bytes (streams_by g.R.Read.remaining l.streams-inside.input l.streams-inside.outputs.bytes) l.cutter l.answers given fed
      × AllGiven false given fed;
  unended : is_finished l.cutter ≡ false;
  count : fed_count l.cutter ≤ (2 ^ 40 - reads_left l.streams-inside.input) * 65536;
  room : vec_len l.piece ≡ 65536;
  input : failures_of l.streams-inside.input ≡ l.fn.streams.failures.input;
  outputs : l.streams-inside.outputs.failures ≡ l.fn.streams.failures.outputs;
}

abbrev pub decreases-loop-piece : goal.decreases-loop-piece
decreases-loop-piece g l = reads_left l.streams-inside.input
