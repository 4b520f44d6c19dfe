use Rattle.std.proofs.Common.{◌∙◌}
use Rattle.jv_data.proofs.shared.Results.{error_returned, on_err}
use Rattle.jq_stream.proofs.Answering.{first_of_written}
use Rattle.jq_stream.proofs.Once.{once_ran, once_stopped, nothing_written, either_run}
use Rattle.jq_stream.proofs.Blaming.{after_result, then_none}
use Rattle.jq_stream.proofs.running.run_once.Goals as goal

pub returns-in_err-engine-clause-err : goal.returns-in_err-engine-clause-err
returns-in_err-engine-clause-err g c = on_err c.from_residual.result (nothing_written _ _)

pub returns-in_err-write_buffers-clause-err : goal.returns-in_err-write_buffers-clause-err
returns-in_err-write_buffers-clause-err g c =
    let first = either_run c.run-done.result c.in_ok-engine.engine _ _ _ _ _ c.run-done.ensures.ok c.run-done.ensures.err _ c.in_ok-engine.ensures.run in
    let over = c.in_err-write_buffers.ensures in
    on_err c.from_residual-in_err-write_buffers.result (once_stopped c.args.settings _ _ _ _ _ _ c.new-answers.ensures.empty first over.first)

pub returns-in_err-done-clause-err : goal.returns-in_err-done-clause-err
returns-in_err-done-clause-err g c =
    let first = c.in_err-done.ensures.err _ c.in_ok-engine.ensures.run in
    let over = c.in_ok-write_buffers.ensures in
    on_err c.from_residual-in_err-done.result
    (once_stopped c.args.settings _ _ _ _ _ _ c.new-answers.ensures.empty first (first_of_written _ _ _ over.written))

pub returns-clause-ok : goal.returns-clause-ok
returns-clause-ok g c =
    let all = c.in_ok-done.ensures.ok _ c.in_ok-engine.ensures.run in
    let over = c.in_ok-write_buffers.ensures in
    once_ran c.args.settings _ _ _ _ _ _ _ _ _ _ c.new-answers.ensures.empty c.new-answers.ensures.fresh all over.written over.emptied
    (c.in_ok-done.ensures.halt _ c.in_ok-engine.ensures.run) c.status-status.ensures c.unwrap_or.ensures

pub returns-in_err-write_buffers-clause-blamed : goal.returns-in_err-write_buffers-clause-blamed
returns-in_err-write_buffers-clause-blamed g c =
    let fault = c.in_err-write_buffers.field-0.0 in
    let over = c.in_err-write_buffers.ensures in
    error_returned c.from_residual-in_err-write_buffers.result fault _ c.from_residual-in_err-write_buffers.ensures.1
    (after_result c.run-done.result fault _ _ _ c.run-done.ensures.unfailed c.run-done.ensures.blamed over.kept over.fault over.blamed)

pub returns-in_err-done-clause-blamed : goal.returns-in_err-done-clause-blamed
returns-in_err-done-clause-blamed g c =
    let fault = c.in_err-done.field-0.0 in
    error_returned c.from_residual-in_err-done.result fault _ c.from_residual-in_err-done.ensures.1 (then_none fault _ _ _ c.in_err-done.ensures.blamed c.in_ok-write_buffers.ensures.unfailed)

pub returns-clause-unfailed : goal.returns-clause-unfailed
returns-clause-unfailed g c = c.in_ok-write_buffers.ensures.unfailed ∙ c.in_ok-done.ensures.unfailed
