use Rattle.std.proofs.Common.{◌≡◌, ℕ, List, ◌++◌, None, length}
use Rattle.jv_data.specs.Value.{Value}
use Rattle.jv_text.specs.Cutting.{HasGiven, is_finished, fed_count}
use Rattle.jq_filters.specs.Outcomes.{first_halt}
use Rattle.jq_filters.specs.Runner.{job_of}
use Rattle.jq_stream.specs.private.Cutting.{IsCutting}
use Rattle.jq_stream.specs.private.Answering.{IsAnswered, runs_on}
use Rattle.jq_stream.proofs.Giving.{values_left}
use Rattle.jq_stream.proofs.answers.OutputBuffers.answer_all.Given as goal

abbrev pub invariant-loop-value : goal.invariant-loop-value
invariant-loop-value g l = record {
  cutting : IsCutting l.cutter;
  answered : (given : List Value) (fed : List ℕ) → HasGiven l.fn.cutter given fed → (values : List Value) × HasGiven l.cutter (given ++ values) fed
      × (first_halt (runs_on (job_of l.settings l.runner) values) ≡ None)
      × IsAnswered l.settings.style (runs_on (job_of l.settings l.runner) values) l.fn.self l.self
      l.fn.outputs.bytes l.outputs.bytes;
  finished : is_finished l.cutter ≡ is_finished l.fn.cutter;
  count : fed_count l.cutter ≡ fed_count l.fn.cutter;
  unfailed : l.outputs.failures ≡ l.fn.outputs.failures;
}

abbrev pub decreases-loop-value : goal.decreases-loop-value
decreases-loop-value g l = length (values_left l.cutter)
