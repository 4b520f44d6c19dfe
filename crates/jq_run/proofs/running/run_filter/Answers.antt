use Rattle.std.proofs.Common.{inl, inr, refl}
use Rattle.std.specs.Str.{chars}
use Rattle.jq_syntax.specs.Chosen.{chosen}
use Rattle.jv_data.proofs.shared.Results.{if_err_map, if_ok_map, if_other}
use Rattle.jq_run.proofs.shared.FilterRefusals.{filter_refusal, filter_refusal_stopped, filter_refused}
use Rattle.jq_run.proofs.shared.Reporting.{report_answered, report_stopped}
use Rattle.jq_run.proofs.running.run_filter.Goals as goal

pub returns-in-Err-clause-done : goal.returns-in-Err-clause-done
returns-in-Err-clause-done g c =
    let f = c.in-Err.fault in
    rw (← c.streams.view_is, ← c.streams-inside.view_is)
    (filter_refused c.refuse_filter.result (chosen c.args.options) (chars c.args.filter.now) f _ _ refl c.in-Err.ensures.refused c.refuse_filter.ensures.memory
    (report_answered c.refuse_filter.result (filter_refusal f).errors 3 _ _ _ c.refuse_filter.ensures.report))

pub returns-in-Err-clause-stopped : goal.returns-in-Err-clause-stopped
returns-in-Err-clause-stopped g c =
    let f = c.in-Err.fault in
    rw (← c.streams.view_is, ← c.streams-inside.view_is)
    (filter_refusal_stopped c.refuse_filter.result (chosen c.args.options) (chars c.args.filter.now) f _ _ refl c.in-Err.ensures.refused c.refuse_filter.ensures.memory
    (report_stopped c.refuse_filter.result (filter_refusal f).errors 3 _ _ _ _ c.refuse_filter.ensures.report))

pub returns-in-Err-clause-read_failed : goal.returns-in-Err-clause-read_failed
returns-in-Err-clause-read_failed g c = if_other c.refuse_filter.result _ _ c.refuse_filter.ensures.fault

pub returns-in-Err-clause-write_failed : goal.returns-in-Err-clause-write_failed
returns-in-Err-clause-write_failed g c =
    rw (← c.streams.view_is, ← c.streams-inside.view_is) (if_err_map c.refuse_filter.result c.refuse_filter.ensures.failed (λ f failed is. inr (failed is)))

pub returns-in-Ok-clause-done : goal.returns-in-Ok-clause-done
returns-in-Ok-clause-done g c = if_ok_map c.run_compiled.result c.run_compiled.ensures.ran (λ answer ran. inl (ran (chosen c.args.options) (chars c.args.filter.now) c.in-Ok.ensures.accepted))

pub returns-in-Ok-clause-stopped : goal.returns-in-Ok-clause-stopped
returns-in-Ok-clause-stopped g c = if_err_map c.run_compiled.result c.run_compiled.ensures.stopped (λ f stopped. inl (stopped (chosen c.args.options) (chars c.args.filter.now) c.in-Ok.ensures.accepted))

pub returns-in-Ok-clause-unread : goal.returns-in-Ok-clause-unread
returns-in-Ok-clause-unread g c = λ none. c.run_compiled.ensures.unread (chosen c.args.options) (chars c.args.filter.now) c.in-Ok.ensures.accepted none
