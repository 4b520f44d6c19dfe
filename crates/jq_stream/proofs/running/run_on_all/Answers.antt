use Rattle.std.proofs.Common.{rules, map, refl}
use Rattle.jv_data.specs.View.{view}
use Rattle.jv_data.proofs.shared.Results.{error_returned, if_err_map, if_other}
use Rattle.jq_devices.specs.Watched.{device_of}
use Rattle.jq_filters.specs.Outcomes.{on_all}
use Rattle.jq_filters.specs.Runner.{job_of}
use Rattle.jq_stream.proofs.Blaming.{report_failed, write_failed}
use Rattle.jq_stream.proofs.Going.{not_read, stopped_by, unbegun}
use Rattle.jq_stream.proofs.Once.{all_stopped, all_part_stopped, all_reported, all_fault_stopped}
use Rattle.jq_stream.proofs.Opened.{streams_by}
use Rattle.jq_stream.proofs.running.run_on_all.Goals as goal

pub returns-in-Ok-Some-clause-ran : goal.returns-in-Ok-Some-clause-ran
returns-in-Ok-Some-clause-ran g c =
    let gathered = rw c.in-Ok-Some.field-0-is at c.in-Ok-Some.ensures.gathered in
    rw (← c.streams.view_is, ← c.streams-inside.view_is)
    (all_reported c.report_fault.result c.args.settings c.args.runner.now (map view c.gather.new.values.items) c.in-Ok-Some.fault _ _ (g.R.Read.remaining (device_of c.gather.new.input)) gathered
    c.report_fault.ensures.status c.report_fault.ensures.ok)

pub returns-in-Ok-Some-clause-stopped : goal.returns-in-Ok-Some-clause-stopped
returns-in-Ok-Some-clause-stopped g c =
    let job = job_of c.args.settings c.args.runner.now in
    let gathered = rw c.in-Ok-Some.field-0-is at c.in-Ok-Some.ensures.gathered in
    rw (← c.streams.view_is, ← c.streams-inside.view_is)
    (stopped_by c.report_fault.result on_all job _ _ c.report_fault.ensures.fault c.report_fault.ensures.err
    (all_fault_stopped c.args.settings c.args.runner.now (map view c.gather.new.values.items) c.in-Ok-Some.fault _ _ (g.R.Read.remaining (device_of c.gather.new.input)) gathered))

pub returns-in-Ok-None-clause-stopped : goal.returns-in-Ok-None-clause-stopped
returns-in-Ok-None-clause-stopped g c =
    let job = job_of c.args.settings c.args.runner.now in
    let new = streams_by g.R.Read.remaining c.gather.new.input c.run_on_array.new.outputs.bytes in
    let gathered = rw c.in-Ok-None.field-0-is at c.in-Ok-None.ensures.gathered in
    rw (← c.streams.view_is, ← c.streams-inside.view_is)
    (stopped_by c.run_on_array.result on_all job _ new c.run_on_array.ensures.fault c.run_on_array.ensures.err
    (all_stopped c.args.settings c.args.runner.now (map view c.gather.new.values.items) _ new (g.R.Read.remaining (device_of c.gather.new.input)) gathered))

pub returns-in_err-run_on_array-in-Err-Read-clause-stopped : goal.returns-in_err-run_on_array-in-Err-Read-clause-stopped
returns-in_err-run_on_array-in-Err-Read-clause-stopped g c =
    let job = job_of c.args.settings c.args.runner.now in
    let new = streams_by g.R.Read.remaining c.gather.new.input c.run_on_array-in-Err-Read.new.outputs.bytes in
    let gathered = rw c.in-Err-Read.field-0-is at c.in-Err-Read.ensures.gathered in
    let fault = c.in_err-run_on_array-in-Err-Read.field-0.0 in
    rw (← c.streams.view_is, ← c.streams-inside.view_is)
    (error_returned c.from_residual.result fault _ c.from_residual.ensures.1
    (not_read fault on_all job _ new c.in_err-run_on_array-in-Err-Read.ensures.fault
    (all_part_stopped c.args.settings c.args.runner.now (map view c.gather.new.values.items) _ new gathered c.in_err-run_on_array-in-Err-Read.ensures.err)))

pub returns-in-Err-clause-stopped : goal.returns-in-Err-clause-stopped
returns-in-Err-clause-stopped g c =
    let job = job_of c.args.settings c.args.runner.now in
    rw (← c.streams.view_is, ← c.streams-inside.view_is)
    (not_read c.in-Err.fault on_all job _ _ (search rules) (unbegun on_all job _ (g.R.Read.remaining (device_of c.gather.new.input))))

pub returns-in-Ok-Some-clause-read_failed : goal.returns-in-Ok-Some-clause-read_failed
returns-in-Ok-Some-clause-read_failed g c = if_other c.report_fault.result _ _ c.report_fault.ensures.fault

pub returns-in-Ok-Some-clause-write_failed : goal.returns-in-Ok-Some-clause-write_failed
returns-in-Ok-Some-clause-write_failed g c =
    rw (← c.streams.view_is, ← c.streams-inside.view_is) (report_failed c.report_fault.result _ _ _ refl c.report_fault.ensures.failed)

pub returns-in-Ok-None-clause-read_failed : goal.returns-in-Ok-None-clause-read_failed
returns-in-Ok-None-clause-read_failed g c = if_other c.run_on_array.result _ _ c.run_on_array.ensures.fault

pub returns-in-Ok-None-clause-write_failed : goal.returns-in-Ok-None-clause-write_failed
returns-in-Ok-None-clause-write_failed g c =
    rw (← c.streams.view_is, ← c.streams-inside.view_is) (if_err_map c.run_on_array.result c.run_on_array.ensures.blamed (λ f blamed. write_failed f _ _ blamed))

pub returns-in_err-run_on_array-in-Err-Read-clause-write_failed : goal.returns-in_err-run_on_array-in-Err-Read-clause-write_failed
returns-in_err-run_on_array-in-Err-Read-clause-write_failed g c =
    let fault = c.in_err-run_on_array-in-Err-Read.field-0.0 in
    rw (← c.streams.view_is, ← c.streams-inside.view_is)
    (error_returned c.from_residual.result fault _ c.from_residual.ensures.1 (λ is. write_failed fault _ _ c.in_err-run_on_array-in-Err-Read.ensures.blamed is))
