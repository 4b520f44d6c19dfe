use Rattle.std.proofs.Common.{refl}
use Rattle.std.proofs.KnownBytes.{Appends-kept}
use Rattle.jq_devices.proofs.shared.Failures.{failed_after}
use Rattle.jv_data.proofs.shared.Results.{error_returned}
use Rattle.jq_run.proofs.shared.Reporting.{note_stopped}
use Rattle.jq_run.proofs.refusals.refuse.Goals as goal

pub returns-clause-report : goal.returns-clause-report
returns-clause-report g c = (Appends-kept _ _ _ _ c.in_ok-write.ensures.ok c.in_ok-put_note.ensures.kept, refl)

pub returns-in_err-put_note-clause-report : goal.returns-in_err-put_note-clause-report
returns-in_err-put_note-clause-report g c =
    note_stopped c.from_residual-in_err-put_note.result c.in_err-put_note.field-0.0 _ _ _ _ _ c.from_residual-in_err-put_note.ensures.1 c.in_err-put_note.ensures.fault c.in_ok-write.ensures.ok
    c.in_err-put_note.ensures.kept

pub returns-in_err-put_note-clause-failed : goal.returns-in_err-put_note-clause-failed
returns-in_err-put_note-clause-failed g c =
    error_returned c.from_residual-in_err-put_note.result c.in_err-put_note.field-0.0 _ c.from_residual-in_err-put_note.ensures.1 (λ is. failed_after _ _ _ c.in_ok-write.ensures.unfailed c.in_err-put_note.ensures.failed)
