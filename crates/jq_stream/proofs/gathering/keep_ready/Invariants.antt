use Rattle.std.proofs.Common.{◌≡◌, ℕ, List, map, length}
use Rattle.jv_data.specs.View.{view}
use Rattle.jv_text.specs.Cutting.{HasGiven, is_finished, fed_count}
use Rattle.jq_stream.proofs.Giving.{values_left}
use Rattle.jq_stream.proofs.gathering.keep_ready.Given as goal

abbrev pub invariant-loop-value : goal.invariant-loop-value
invariant-loop-value l = record {
  cutting : (fed : List ℕ) × HasGiven l.cutter (map view l.values.items) fed;
  given : (fed : List ℕ) → HasGiven l.fn.cutter (map view l.fn.values.items) fed → HasGiven l.cutter (map view l.values.items) fed;
  finished : is_finished l.cutter ≡ is_finished l.fn.cutter;
  count : fed_count l.cutter ≡ fed_count l.fn.cutter;
}

abbrev pub decreases-loop-value : goal.decreases-loop-value
decreases-loop-value l = length (values_left l.cutter)
