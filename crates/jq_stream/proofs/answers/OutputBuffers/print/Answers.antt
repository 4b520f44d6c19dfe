use Rattle.std.proofs.Common.{refl}
use Rattle.jv_data.proofs.shared.Results.{on_err, on_err_map, on_ok_map}
use Rattle.jq_stream.proofs.Printing.{none_added_first}
use Rattle.jq_stream.proofs.Sending.{first_as, sent_as}
use Rattle.jq_stream.proofs.answers.OutputBuffers.print.Goals as goal

pub returns-in-Some-clause-ok : goal.returns-in-Some-clause-ok
returns-in-Some-clause-ok g c =
    let printer = rw c.in-Some.is at c.in_ok-printer.ensures in
    on_ok_map c.print_pieces.result c.print_pieces.ensures.ok (λ sent. record { output = sent_as _ _ _ _ _ _ printer sent.output; errors = sent.errors; failed = sent.failed })

pub returns-in-Some-clause-err : goal.returns-in-Some-clause-err
returns-in-Some-clause-err g c =
    let printer = rw c.in-Some.is at c.in_ok-printer.ensures in
    on_err_map c.print_pieces.result c.print_pieces.ensures.err (λ sent. record { output = first_as _ _ _ _ _ _ printer sent.output; errors = sent.errors })

pub returns-in_err-printer-clause-err : goal.returns-in_err-printer-clause-err
returns-in_err-printer-clause-err g c = on_err c.from_residual.result (none_added_first _ _ _ _ refl refl)
