use Rattle.std.proofs.Common.{[], sym, append-nil}
use Rattle.jv_data.proofs.shared.Results.{on_err}
use Rattle.jq_stream.proofs.Sending.{first_flushed}
use Rattle.jq_stream.proofs.answers.OutputBuffers.write_if_large.Goals as goal

pub returns-in_err-write_buffers-clause-err : goal.returns-in_err-write_buffers-clause-err
returns-in_err-write_buffers-clause-err g c =
    let over = c.in_err-write_buffers.ensures in
    on_err c.from_residual.result (record {
      output = first_flushed _ _ _ [] _ _ (sym (append-nil _)) over.emptied.empty.printed over.first.output;
      errors = first_flushed _ _ _ [] _ _ (sym (append-nil _)) over.emptied.empty.reported over.first.errors;
    })
