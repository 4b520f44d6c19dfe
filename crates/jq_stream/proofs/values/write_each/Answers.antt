use Rattle.jq_filters.specs.Runner.{job_of}
use Rattle.jq_stream.proofs.Copying.{values_ran}
use Rattle.jq_stream.proofs.values.write_each.Goals as goal

pub returns-clause-ran : goal.returns-clause-ran
returns-clause-ran g c =
    let written = c.in_ok-write_buffers.ensures in
    let answered = c.in_ok-halt.ensures in
    values_ran (job_of c.args.settings c.args.runner.now) _ _ _ c.write_buffers.new.self _ _ _ _ c.status-status.result _ _ c.new-answers.ensures.empty c.new-answers.ensures.fresh answered.answered answered.halt answered.runs
    written.written written.emptied c.status-status.ensures c.unwrap_or.ensures
