use Rattle.std.proofs.Common.{ap, ◌∙◌, inl, inr, refl}
use Rattle.jq_app.proofs.Blaming.{later, written_unless_failed}
use Rattle.jq_app.proofs.Outcomes.{err_at, ok_at}
use Rattle.jq_app.proofs.commands.run_reported.Goals as goal

pub returns-in-Ok-clause-served : goal.returns-in-Ok-clause-served
returns-in-Ok-clause-served g c = record { outcome = inl (ok_at c.run_command-result.result.result c.in-Ok.status _ c.in-Ok.is c.run_command-result.ensures.served) }

pub returns-in-Ok-clause-unread : goal.returns-in-Ok-clause-unread
returns-in-Ok-clause-unread g c = λ none. c.run_command-result.ensures.unread (λ needs. none (record { needs = needs }))

pub returns-in-Err-clause-served : goal.returns-in-Err-clause-served
returns-in-Err-clause-served g c =
    let result = c.run_command-result.result.result in
    let blamed = rw (← c.streams.view_is, ← c.streams-inside.view_is) at c.run_command-result.ensures.blamed in
    let stopped = rw (← c.streams.view_is, ← c.streams-inside.view_is) at c.run_command-result.ensures.stopped in
    record {
      outcome = inr (
        c.in-Err.fault,
        later c.in-Err.fault _ _ _ _ _ _ (err_at result c.in-Err.fault _ c.in-Err.is blamed) c.report_noted-status.ensures.kept,
        _,
        err_at result c.in-Err.fault _ c.in-Err.is stopped,
        refl,
        refl,
        refl,
        written_unless_failed _ _ _ _ _ c.report_noted-status.ensures.reported,
        c.report_noted-status.ensures.status,
      );
    }

pub returns-in-Err-clause-unread : goal.returns-in-Err-clause-unread
returns-in-Err-clause-unread g c = λ none.
    ap (λ s. s.input) c.streams-inside.view_is ∙ ap (λ s. s.input) c.streams.view_is ∙ c.run_command-result.ensures.unread (λ needs. none (record { needs = needs }))
