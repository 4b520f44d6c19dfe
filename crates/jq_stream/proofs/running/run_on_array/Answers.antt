use Rattle.jv_data.proofs.shared.Results.{on_err}
use Rattle.jq_stream.proofs.Once.{nothing_written}
use Rattle.jq_stream.proofs.running.run_on_array.Goals as goal

pub returns-in_err-value-clause-err : goal.returns-in_err-value-clause-err
returns-in_err-value-clause-err g c = on_err c.from_residual.result (nothing_written _ _)
