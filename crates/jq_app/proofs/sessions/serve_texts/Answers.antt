use Rattle.std.proofs.Common.{◌+◌, ap, map}
use Rattle.jv_data.specs.View.{view}
use Rattle.jq_devices.specs.Watched.{device_of}
use Rattle.jq_script.specs.Serving.{point_of}
use Rattle.jq_session.specs.Sessions.{options_of, starts_of, state_of}
use Rattle.jq_session.specs.States.{state_in}
use Rattle.jq_starts.specs.Starts.{starts_in}
use Rattle.jq_syntax.specs.Chosen.{chosen}
use Rattle.jq_app.specs.Stages.{started_in}
use Rattle.jq_app.proofs.Blaming.{any_by_report, any_by_script}
use Rattle.jq_app.proofs.Live.{fault_report_stopped, fault_reported, session_cut_off, session_served, shifted, start_refused, start_stopped}
use Rattle.jq_app.proofs.sessions.serve_texts.Goals as goal

pub returns-in-Some-clause-done : goal.returns-in-Some-clause-done
returns-in-Some-clause-done g c =
    rw (← c.streams.view_is, ← c.streams-inside.view_is)
    (fault_reported c.report_fault.result (chosen c.args.options) c.args.filter (map view c.args.texts.values.items) c.args.texts.fault c.in-Some.fault c.args.follow
    _ _ _ _
    (started_in c.args.counts) c.in-Some.is c.report_fault.ensures.status c.report_fault.ensures.ok)

pub returns-in-Some-clause-stopped : goal.returns-in-Some-clause-stopped
returns-in-Some-clause-stopped g c =
    rw (← c.streams.view_is, ← c.streams-inside.view_is)
    (fault_report_stopped c.report_fault.result (chosen c.args.options) c.args.filter (map view c.args.texts.values.items) c.args.texts.fault c.in-Some.fault c.args.follow
    _ _ _ _
    (started_in c.args.counts) c.in-Some.is c.report_fault.ensures.err c.report_fault.ensures.fault)

pub returns-in-Some-clause-blamed : goal.returns-in-Some-clause-blamed
returns-in-Some-clause-blamed g c =
    rw (← c.streams.view_is, ← c.streams-inside.view_is)
    (any_by_report c.report_fault.result _ _ _ _ c.report_fault.ensures.fault c.report_fault.ensures.failed)

pub returns-in-Ok-clause-done : goal.returns-in-Ok-clause-done
returns-in-Ok-clause-done g c =
    rw (← c.streams.view_is, ← c.streams-inside.view_is)
    (session_served c.serve_host.result.0 (chosen c.args.options) c.args.filter c.args.texts.values.items c.args.texts.fault c.args.follow
    _ _ _
    _ _
    (starts_in c.args.counts.starts) (starts_of c.in-Ok.session) (starts_in c.args.counts.spare) (started_in c.serve_host.result.1) (options_of c.in-Ok.session) (state_of c.in-Ok.session) (point_of c.new.result)
    c.plans_are_by_the_tree.ensures c.in_default.is c.in-Ok.ensures.state c.in-Ok.ensures.room c.in-Ok.ensures.started c.in-Ok.ensures.options c.new.ensures c.serve_host.ensures.served)

pub returns-in-Ok-clause-stopped : goal.returns-in-Ok-clause-stopped
returns-in-Ok-clause-stopped g c =
    rw (← c.streams.view_is, ← c.streams-inside.view_is)
    (session_cut_off c.serve_host.result.0 (chosen c.args.options) c.args.filter c.args.texts.values.items c.args.texts.fault c.args.follow
    _ _ _
    _ _
    (starts_in c.args.counts.starts) (starts_of c.in-Ok.session) (starts_in c.args.counts.spare) (started_in c.serve_host.result.1) (options_of c.in-Ok.session) (state_of c.in-Ok.session) (point_of c.new.result)
    c.plans_are_by_the_tree.ensures c.in_default.is c.in-Ok.ensures.state c.in-Ok.ensures.room c.in-Ok.ensures.started c.in-Ok.ensures.options c.new.ensures c.serve_host.ensures.stopped)

pub returns-in-Ok-clause-blamed : goal.returns-in-Ok-clause-blamed
returns-in-Ok-clause-blamed g c =
    rw (← c.streams.view_is, ← c.streams-inside.view_is)
    (any_by_script c.serve_host.result.0 _ _ _ _ _ c.serve_host.ensures.read_failed c.serve_host.ensures.write_failed)

pub returns-in-Err-clause-done : goal.returns-in-Err-clause-done
returns-in-Err-clause-done g c =
    rw (← c.streams.view_is, ← c.streams-inside.view_is)
    (start_refused c.in-Err.refused.refusal c.refuse_start.result (chosen c.args.options) c.args.filter c.args.texts.values.items c.args.texts.fault c.args.follow
    _ _ _ _
    (started_in c.args.counts) (starts_in c.in-Err.refused.starts + starts_in c.args.counts.spare) c.in_default.is c.in-Err.ensures.refused (
      shifted (state_in c.args.filter (map view c.args.texts.values.items)) (starts_in c.args.counts.starts) (starts_in c.in-Err.refused.starts) (starts_in c.args.counts.spare) c.in-Err.ensures.at_most,
      λ high. ap (λ n. n + starts_in c.args.counts.spare) (c.in-Err.ensures.full high),
    )
    (c.refuse_start.ensures.full, λ other. ((c.refuse_start.ensures.memory other).0, ap (λ e. g.E.Write.contents (device_of e)) (c.refuse_start.ensures.memory other).1)))

pub returns-in-Err-clause-stopped : goal.returns-in-Err-clause-stopped
returns-in-Err-clause-stopped g c =
    rw (← c.streams.view_is, ← c.streams-inside.view_is)
    (start_stopped c.in-Err.refused.refusal c.refuse_start.result (chosen c.args.options) c.args.filter c.args.texts.values.items c.args.texts.fault c.args.follow
    _ _ _ _
    (started_in c.args.counts) (starts_in c.in-Err.refused.starts + starts_in c.args.counts.spare) c.plans_are_by_the_tree.ensures c.in_default.is c.in-Err.ensures.refused (
      shifted (state_in c.args.filter (map view c.args.texts.values.items)) (starts_in c.args.counts.starts) (starts_in c.in-Err.refused.starts) (starts_in c.args.counts.spare) c.in-Err.ensures.at_most,
      λ high. ap (λ n. n + starts_in c.args.counts.spare) (c.in-Err.ensures.full high),
    )
    (c.refuse_start.ensures.full, λ other. ((c.refuse_start.ensures.memory other).0, ap (λ e. g.E.Write.contents (device_of e)) (c.refuse_start.ensures.memory other).1)))

pub returns-in-Err-clause-blamed : goal.returns-in-Err-clause-blamed
returns-in-Err-clause-blamed g c =
    rw (← c.streams.view_is, ← c.streams-inside.view_is)
    (any_by_report c.refuse_start.result _ _ _ _ c.refuse_start.ensures.fault c.refuse_start.ensures.failed)
