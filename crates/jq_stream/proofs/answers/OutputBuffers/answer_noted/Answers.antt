use Rattle.std.proofs.Common.{◌∙◌, ◌∷◌, []}
use Rattle.jv_data.proofs.shared.Results.{error_returned, on_err}
use Rattle.jq_stream.proofs.Answering.{answered_sent, answered_sent_first}
use Rattle.jq_stream.proofs.Blaming.{after_none}
use Rattle.jq_stream.proofs.answers.OutputBuffers.answer_noted.Goals as goal

pub returns-clause-ok : goal.returns-clause-ok
returns-clause-ok g c = answered_sent _ _ _ _ _ _ _ _ c.in_ok-end_input.ensures.ok c.in_ok-end_input.ensures.last c.in_ok-halt.ensures.ok

pub returns-clause-unfailed : goal.returns-clause-unfailed
returns-clause-unfailed g c = c.in_ok-end_input.ensures.unfailed ∙ c.in_ok-halt.ensures.unfailed

pub returns-in_err-end_input-clause-err : goal.returns-in_err-end_input-clause-err
returns-in_err-end_input-clause-err g c = on_err c.from_residual-in_err-end_input.result (answered_sent_first _ _ _ _ _ _ _ _ c.in_err-end_input.ensures.err c.in_ok-halt.ensures.ok)

pub returns-in_err-end_input-clause-blamed : goal.returns-in_err-end_input-clause-blamed
returns-in_err-end_input-clause-blamed g c =
    let fault = c.in_err-end_input.field-0.0 in
    error_returned c.from_residual-in_err-end_input.result fault _ c.from_residual-in_err-end_input.ensures.1
    (after_none fault _ _ _ c.in_ok-halt.ensures.unfailed c.in_err-end_input.ensures.blamed)
