use Rattle.std.proofs.Common.{[], ◌∷◌, ◌++◌, refl, sym, ◌∙◌}
use Rattle.jv_data.proofs.shared.Results.{error_returned, on_err}
use Rattle.jq_stream.proofs.Answering.{answered_sent, answered_sent_first}
use Rattle.jq_stream.proofs.Blaming.{after_none}
use Rattle.jq_stream.proofs.Turning.{turning_none, turning_on, turning_stopped, print_stopped, report_stopped, run_ended, halt_of_rest, before_more}
use Rattle.jq_stream.proofs.answers.OutputBuffers.run_engine.Goals as goal

pub loop-turn-init : goal.loop-turn-init
loop-turn-init g c = record {
  turning = λ r is. ([], r, refl, is, turning_none _ _ _);
  unfailed = refl;
}

pub loop-turn-preserved : goal.loop-turn-preserved
loop-turn-preserved g c = record {
  turning = λ r is.
      let so_far = c.loop-turn.invariant.turning r is in
      let turn = c.in-Output.ensures.turns so_far.1 so_far.3 in (
        so_far.0 ++ turn.0 ∷ [],
        turn.1,
        before_more r so_far.1 turn.1 so_far.0 turn.0 so_far.2 turn.2,
        turn.4,
        turning_on _ so_far.0 turn.0 _ _ _ _ _ _ _ turn.3 so_far.4 c.in_ok-print-in-Output.ensures.ok c.in_ok-print-in-Output.ensures.last,
      );
  unfailed = c.in_ok-print-in-Output.ensures.unfailed ∙ c.loop-turn.invariant.unfailed;
}

pub returns-in_err-print-in-Output-clause-err : goal.returns-in_err-print-in-Output-clause-err
returns-in_err-print-in-Output-clause-err g c = on_err c.from_residual.result (λ r is.
    let so_far = c.loop-turn.invariant.turning r is in
    let turn = c.in-Output.ensures.turns so_far.1 so_far.3 in
    print_stopped _ so_far.0 turn.0 _ r turn.1 _ _ _ _ _ _ turn.3 (before_more r so_far.1 turn.1 so_far.0 turn.0 so_far.2 turn.2) so_far.4 c.in_err-print-in-Output.ensures.err)

pub returns-in_err-report-in-End-clause-err : goal.returns-in_err-report-in-End-clause-err
returns-in_err-report-in-End-clause-err g c = on_err c.from_residual-in_err-report-in-End.result (λ r is.
    let so_far = c.loop-turn.invariant.turning r is in
    report_stopped _ so_far.0 r so_far.1 _ _ _ _ _ so_far.2 so_far.4 c.in_err-report-in-End.ensures.printed c.in_err-report-in-End.ensures.err)

pub returns-in-End-clause-ok : goal.returns-in-End-clause-ok
returns-in-End-clause-ok g c = λ r is.
    let so_far = c.loop-turn.invariant.turning r is in
    let turn = c.in-End.ensures.turns so_far.1 so_far.3 in
    let report = c.in_ok-report-in-End.ensures in
    answered_sent _ (r ∷ []) _ _ _ _ _ _ c.in_ok-write_if_large-in-End.ensures.ok c.in_ok-write_if_large-in-End.ensures.last
    (run_ended _ so_far.0 _ r so_far.1 _ _ _ _ _ so_far.2 turn.0 so_far.4 report.printed report.last report.ok report.failed)

pub returns-in-End-clause-halt : goal.returns-in-End-clause-halt
returns-in-End-clause-halt g c = λ r is.
    let so_far = c.loop-turn.invariant.turning r is in
    let turn = c.in-End.ensures.turns so_far.1 so_far.3 in
    c.halt_status.ensures ∙ sym (halt_of_rest r so_far.1 so_far.0 _ so_far.2 turn.0)

pub returns-in_err-write_if_large-in-End-clause-err : goal.returns-in_err-write_if_large-in-End-clause-err
returns-in_err-write_if_large-in-End-clause-err g c = on_err c.from_residual-in_err-write_if_large-in-End.result (λ r is.
    let so_far = c.loop-turn.invariant.turning r is in
    let turn = c.in-End.ensures.turns so_far.1 so_far.3 in
    let report = c.in_ok-report-in-End.ensures in
    answered_sent_first _ (r ∷ []) _ _ _ _ _ _ c.in_err-write_if_large-in-End.ensures.err
    (run_ended _ so_far.0 _ r so_far.1 _ _ _ _ _ so_far.2 turn.0 so_far.4 report.printed report.last report.ok report.failed))

pub returns-in-End-clause-unfailed : goal.returns-in-End-clause-unfailed
returns-in-End-clause-unfailed g c = c.in_ok-write_if_large-in-End.ensures.unfailed ∙ c.loop-turn.invariant.unfailed

pub returns-in_err-write_if_large-in-End-clause-blamed : goal.returns-in_err-write_if_large-in-End-clause-blamed
returns-in_err-write_if_large-in-End-clause-blamed g c =
    let fault = c.in_err-write_if_large-in-End.field-0.0 in
    error_returned c.from_residual-in_err-write_if_large-in-End.result fault _ c.from_residual-in_err-write_if_large-in-End.ensures.1
    (after_none fault _ _ _ c.loop-turn.invariant.unfailed c.in_err-write_if_large-in-End.ensures.blamed)

pub returns-in-NoMemory-clause-err : goal.returns-in-NoMemory-clause-err
returns-in-NoMemory-clause-err g c = λ r is.
    let so_far = c.loop-turn.invariant.turning r is in
    turning_stopped _ so_far.0 r so_far.1 _ _ _ _ so_far.2 so_far.4

pub returns-clause-err : goal.returns-clause-err
returns-clause-err g c = λ r is.
    let so_far = c.loop-turn.invariant.turning r is in
    turning_stopped _ so_far.0 r so_far.1 _ _ _ _ so_far.2 so_far.4

pub returns-in_err-print-in-Output-clause-blamed : goal.returns-in_err-print-in-Output-clause-blamed
returns-in_err-print-in-Output-clause-blamed g c =
    let fault = c.in_err-print-in-Output.field-0.0 in
    error_returned c.from_residual.result fault _ c.from_residual.ensures.1 (after_none fault _ _ _ c.loop-turn.invariant.unfailed c.in_err-print-in-Output.ensures.blamed)
