use Rattle.std.proofs.Common.{◌∙◌}
use Rattle.std.proofs.lemmas.Result.{IfOk-weaker}
use Rattle.jv_data.proofs.shared.Results.{error_returned, if_err_map, on_err, on_err_map, on_ok_map}
use Rattle.jq_stream.proofs.Answering.{either_answered, buffers_written, first_buffers_written, first_of_written}
use Rattle.jq_stream.proofs.Blaming.{after_result, then_none}
use Rattle.jq_stream.proofs.answers.OutputBuffers.answer_ready.Goals as goal

pub returns-in_err-write_buffers-clause-stopped : goal.returns-in_err-write_buffers-clause-stopped
returns-in_err-write_buffers-clause-stopped g c = on_err c.from_residual.result (λ given fed has.
    let part = either_answered c.answer_all-reached.result c.args.settings c.args.runner.now c.args.cutter.now c.answer_all-reached.new.cutter _ _ _ _ c.answer_all-reached.ensures.answered c.answer_all-reached.ensures.stopped given fed has in
    let written = first_buffers_written _ _ _ _ _ _ _ c.requires.empty part.3 c.in_err-write_buffers.ensures.first in
    (part.0, part.1, part.2, written.0, written.1))

pub returns-clause-answered : goal.returns-clause-answered
returns-clause-answered g c = IfOk-weaker c.answer_all-reached.result _ _ (λ reached ok given fed has.
    let ready = ok given fed has in
    let over = c.in_ok-write_buffers.ensures in
    (ready.0, ready.1, buffers_written _ _ _ _ _ _ _ _ ready.2 over.written over.emptied))
    c.answer_all-reached.ensures.answered

pub returns-clause-stopped : goal.returns-clause-stopped
returns-clause-stopped g c = on_err_map c.answer_all-reached.result c.answer_all-reached.ensures.stopped (λ err given fed has.
    let part = err given fed has in
    let over = c.in_ok-write_buffers.ensures in
    let written = first_buffers_written _ _ _ _ _ _ _ c.requires.empty part.3 (first_of_written _ _ _ over.written) in
    (part.0, part.1, part.2, written.0, written.1))

pub returns-in_err-write_buffers-clause-blamed : goal.returns-in_err-write_buffers-clause-blamed
returns-in_err-write_buffers-clause-blamed g c =
    let fault = c.in_err-write_buffers.field-0.0 in
    let over = c.in_err-write_buffers.ensures in
    error_returned c.from_residual.result fault _ c.from_residual.ensures.1
    (after_result c.answer_all-reached.result fault _ _ _ c.answer_all-reached.ensures.unfailed c.answer_all-reached.ensures.blamed over.kept over.fault over.blamed)

pub returns-clause-unfailed : goal.returns-clause-unfailed
returns-clause-unfailed g c = on_ok_map c.answer_all-reached.result c.answer_all-reached.ensures.unfailed (λ same. c.in_ok-write_buffers.ensures.unfailed ∙ same)

pub returns-clause-blamed : goal.returns-clause-blamed
returns-clause-blamed g c = if_err_map c.answer_all-reached.result c.answer_all-reached.ensures.blamed (λ f blamed. then_none f _ _ _ blamed c.in_ok-write_buffers.ensures.unfailed)
