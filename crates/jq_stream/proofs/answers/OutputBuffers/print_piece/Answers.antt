use Rattle.std.proofs.Common.{refl}
use Rattle.jv_data.proofs.shared.Results.{on_err}
use Rattle.jq_stream.proofs.Printing.{first_whole, none_added_first, piece_added, piece_added_first}
use Rattle.jq_stream.proofs.answers.OutputBuffers.print_piece.Goals as goal

pub returns-clause-ok : goal.returns-clause-ok
returns-clause-ok g c =
    let piece = c.in_ok-more.ensures.ok in
    (piece.0, piece.2, piece_added piece.0 _ _ _ _ _ piece.1 refl refl c.in_ok-write_if_large.ensures.ok)

pub returns-in_err-write_if_large-clause-err : goal.returns-in_err-write_if_large-clause-err
returns-in_err-write_if_large-clause-err g c =
    let piece = c.in_ok-more.ensures.ok in
    on_err c.from_residual-in_err-write_if_large.result (first_whole _ _ _ _ _ _ piece.2 (piece_added_first piece.0 _ _ _ _ _ _ piece.1 refl c.in_err-write_if_large.ensures.err))

pub returns-in_err-more-clause-err : goal.returns-in_err-more-clause-err
returns-in_err-more-clause-err g c = on_err c.from_residual.result (none_added_first c.args.printer.now _ _ _ c.in_err-more.ensures.err refl)
