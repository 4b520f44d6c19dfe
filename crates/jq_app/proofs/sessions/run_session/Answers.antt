use Rattle.std.proofs.Common.{refl}
use Rattle.std.specs.Str.{chars}
use Rattle.jq_devices.specs.Watched.{device_of}
use Rattle.jq_filters.specs.Filters.{filter_job, filter_mode}
use Rattle.jq_syntax.specs.Chosen.{chosen}
use Rattle.jv_data.proofs.shared.Results.{if_err_map, if_ok_map}
use Rattle.jq_app.proofs.Blaming.{blamed_by_report}
use Rattle.jq_run.proofs.shared.FilterRefusals.{filter_refusal}
use Rattle.jq_run.proofs.shared.Reporting.{report_answered, report_stopped}
use Rattle.jq_app.proofs.SessionRefusals.{session_refusal_stopped, session_refused}
use Rattle.jq_app.proofs.sessions.run_session.Goals as goal

pub returns-in-Ok-clause-done : goal.returns-in-Ok-clause-done
returns-in-Ok-clause-done g c = if_ok_map c.serve_filter.result.0 c.serve_filter.ensures.done (λ answer done. done (chosen c.args.options) (chars c.args.filter.now) c.in-Ok.ensures.accepted c.in-Ok.ensures.kept)

pub returns-in-Ok-clause-stopped : goal.returns-in-Ok-clause-stopped
returns-in-Ok-clause-stopped g c = if_err_map c.serve_filter.result.0 c.serve_filter.ensures.stopped (λ f stopped. stopped (chosen c.args.options) (chars c.args.filter.now) c.in-Ok.ensures.accepted c.in-Ok.ensures.kept)

pub returns-in-Ok-clause-unread : goal.returns-in-Ok-clause-unread
returns-in-Ok-clause-unread g c = λ none. absurd (none (filter_mode c.in-Ok.parts.0, filter_job c.in-Ok.parts.0, c.in-Ok.ensures.accepted.accepted.accepts))

pub returns-in-Err-clause-done : goal.returns-in-Err-clause-done
returns-in-Err-clause-done g c =
    let f = c.in-Err.fault in
    rw (← c.streams.view_is, ← c.streams-inside.view_is)
    (session_refused c.refuse_filter.result (g.I.Read.remaining (device_of c.args.files.now)) c.args.follow (chosen c.args.options) (chars c.args.filter.now) f _ _ (refl, refl) c.in-Err.ensures.refused
    c.refuse_filter.ensures.memory (report_answered c.refuse_filter.result (filter_refusal f).errors 3 _ _ _ c.refuse_filter.ensures.report))

pub returns-in-Err-clause-stopped : goal.returns-in-Err-clause-stopped
returns-in-Err-clause-stopped g c =
    let f = c.in-Err.fault in
    rw (← c.streams.view_is, ← c.streams-inside.view_is)
    (session_refusal_stopped c.refuse_filter.result (g.I.Read.remaining (device_of c.args.files.now)) c.args.follow (chosen c.args.options) (chars c.args.filter.now) f _ _ (refl, refl)
    c.in-Err.ensures.refused c.refuse_filter.ensures.memory (report_stopped c.refuse_filter.result (filter_refusal f).errors 3 _ _ _ _ c.refuse_filter.ensures.report))

pub returns-in-Err-clause-blamed : goal.returns-in-Err-clause-blamed
returns-in-Err-clause-blamed g c =
    rw (← c.streams.view_is, ← c.streams-inside.view_is) (blamed_by_report c.refuse_filter.result _ _ c.refuse_filter.ensures.fault c.refuse_filter.ensures.failed)
