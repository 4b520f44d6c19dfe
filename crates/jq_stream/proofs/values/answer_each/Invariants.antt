use Rattle.std.proofs.Common.{◌≡◌, None, map, take}
use Rattle.jv_data.specs.View.{view}
use Rattle.jq_starts.specs.Starts.{HasStarted}
use Rattle.jq_filters.specs.Outcomes.{first_halt}
use Rattle.jq_filters.specs.Runner.{job_of}
use Rattle.jq_stream.specs.private.Answering.{IsAnswered, runs_on}
use Rattle.jq_stream.proofs.values.answer_each.Given as goal

-- the runs on the first values were started and answered, and none of them halted
abbrev pub invariant-loop-i : goal.invariant-loop-i
invariant-loop-i g l = record {
  answered : IsAnswered l.settings.style (runs_on (job_of l.settings l.runner) (map view (take l.i l.values))) l.fn.answers l.answers
      l.fn.outputs.bytes l.outputs.bytes;
  no_halt : first_halt (runs_on (job_of l.settings l.runner) (map view (take l.i l.values))) ≡ None;
  started : HasStarted l.i l.fn.starts l.starts;
}
