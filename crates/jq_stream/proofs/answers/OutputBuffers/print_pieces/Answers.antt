use Rattle.std.proofs.Common.{[], ◌++◌, refl, ◌∙◌}
use Rattle.jv_data.proofs.shared.Results.{error_returned, on_err}
use Rattle.jq_stream.proofs.Blaming.{after_none}
use Rattle.jq_stream.proofs.Printing.{first_printed, first_whole, more_remain, none_remain, printed_more, printed_none, printed_then_first, printed_whole}
use Rattle.jq_stream.proofs.answers.OutputBuffers.print_pieces.Goals as goal

pub loop-piece-init : goal.loop-piece-init
loop-piece-init g c = record { printed = ([], refl, printed_none _ _); last = refl; unfailed = refl }

pub loop-piece-preserved : goal.loop-piece-preserved
loop-piece-preserved g c =
    let so_far = c.loop-piece.invariant.printed in
    let piece = c.in_ok-more.ensures.ok in
    record {
      printed = (
        so_far.0 ++ piece.0,
        more_remain _ so_far.0 _ piece.0 c.print_piece.new.printer c.in_ok-more.more so_far.1 piece.1 c.if-not-more.false,
        printed_more so_far.0 piece.0 _ _ _ _ _ _ so_far.2 piece.2,
      );
      last = c.in_ok-more.ensures.last ∙ c.loop-piece.invariant.last;
      unfailed = c.in_ok-more.ensures.unfailed ∙ c.loop-piece.invariant.unfailed;
    }

pub returns-then-not-more-clause-ok : goal.returns-then-not-more-clause-ok
returns-then-not-more-clause-ok g c =
    let so_far = c.loop-piece.invariant.printed in
    let piece = c.in_ok-more.ensures.ok in
    printed_whole _ _ _ _ _ _ (none_remain _ so_far.0 _ piece.0 c.print_piece.new.printer c.in_ok-more.more so_far.1 piece.1 c.if-not-more.true)
    (printed_more so_far.0 piece.0 _ _ _ _ _ _ so_far.2 piece.2)

pub returns-then-not-more-clause-last : goal.returns-then-not-more-clause-last
returns-then-not-more-clause-last g c = c.in_ok-more.ensures.last ∙ c.loop-piece.invariant.last

pub returns-then-not-more-clause-unfailed : goal.returns-then-not-more-clause-unfailed
returns-then-not-more-clause-unfailed g c = c.in_ok-more.ensures.unfailed ∙ c.loop-piece.invariant.unfailed

pub returns-in_err-more-clause-err : goal.returns-in_err-more-clause-err
returns-in_err-more-clause-err g c =
    let so_far = c.loop-piece.invariant.printed in
    on_err c.from_residual.result (first_whole _ _ _ _ _ _ so_far.1 (printed_then_first so_far.0 _ _ _ _ _ _ _ so_far.2 c.in_err-more.ensures.err))

pub returns-in_err-more-clause-last : goal.returns-in_err-more-clause-last
returns-in_err-more-clause-last g c = c.in_err-more.ensures.last ∙ c.loop-piece.invariant.last

pub returns-in_err-more-clause-blamed : goal.returns-in_err-more-clause-blamed
returns-in_err-more-clause-blamed g c =
    let fault = c.in_err-more.field-0.0 in
    error_returned c.from_residual.result fault _ c.from_residual.ensures.1 (after_none fault _ _ _ c.loop-piece.invariant.unfailed c.in_err-more.ensures.blamed)

pub returns-clause-err : goal.returns-clause-err
returns-clause-err g c =
    let so_far = c.loop-piece.invariant.printed in
    first_whole _ _ _ _ _ _ so_far.1 (first_printed so_far.0 _ _ _ _ _ so_far.2)
