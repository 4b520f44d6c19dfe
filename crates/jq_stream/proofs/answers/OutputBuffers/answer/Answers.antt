use Rattle.jv_data.proofs.shared.Results.{on_err}
use Rattle.jq_stream.proofs.Answering.{stopped_before}
use Rattle.jq_stream.proofs.answers.OutputBuffers.answer.Goals as goal

pub returns-in_err-engine-clause-err : goal.returns-in_err-engine-clause-err
returns-in_err-engine-clause-err g c = on_err c.from_residual.result (stopped_before _ _ _ _)
