use Rattle.std.proofs.Common.{rules, true, map, ap, refl}
use Rattle.jv_data.specs.View.{view}
use Rattle.jv_data.proofs.shared.Results.{error_returned, if_err_map, if_other}
use Rattle.jq_devices.specs.Watched.{device_of}
use Rattle.jq_devices.specs.declared.faults.StreamFault.TheVariants.{NoMemory}
use Rattle.jq_filters.specs.Outcomes.{on_null}
use Rattle.jq_filters.specs.Runner.{job_of}
use Rattle.jq_stream.proofs.Blaming.{write_failed}
use Rattle.jq_stream.proofs.Going.{not_read, stopped_by, unbegun}
use Rattle.jq_stream.proofs.Once.{null_stopped, null_part_stopped}
use Rattle.jq_stream.proofs.Opened.{streams_by}
use Rattle.jq_stream.proofs.running.run_on_null.Goals as goal

pub returns-in_err-fault-in-Ok-clause-stopped : goal.returns-in_err-fault-in-Ok-clause-stopped
returns-in_err-fault-in-Ok-clause-stopped g c =
    let job = job_of c.args.settings c.args.runner.now in
    let old = streams_by g.R.Read.remaining c.streams.inside.input c.streams.inside.outputs.bytes in
    rw (← c.streams.view_is) (error_returned c.from_residual.result NoMemory _ c.from_residual.ensures.1 (unbegun (on_null true) job old (g.R.Read.remaining (device_of c.gather.new.input))))

pub returns-in_ok-fault-in-Ok-clause-stopped : goal.returns-in_ok-fault-in-Ok-clause-stopped
returns-in_ok-fault-in-Ok-clause-stopped g c =
    let job = job_of c.args.settings c.args.runner.now in
    let old = streams_by g.R.Read.remaining c.streams.inside.input c.streams.inside.outputs.bytes in
    let new = streams_by g.R.Read.remaining c.gather.new.input c.run_with.new.outputs.bytes in
    let values = map view c.gather.new.values.items in
    rw (← c.streams.view_is) (stopped_by c.run_with.result (on_null true) job old new c.run_with.ensures.fault c.run_with.ensures.err
    (null_stopped c.args.settings c.args.runner.now _ values c.in-Ok.stop old new (g.R.Read.remaining (device_of c.gather.new.input)) c.in-Ok.ensures.gathered (ap (λ e. record { items = values; ending = e }) c.in_ok-fault-in-Ok.ensures)))

pub returns-in_err-run_with-in-Err-Read-clause-stopped : goal.returns-in_err-run_with-in-Err-Read-clause-stopped
returns-in_err-run_with-in-Err-Read-clause-stopped g c =
    let job = job_of c.args.settings c.args.runner.now in
    let old = streams_by g.R.Read.remaining c.streams.inside.input c.streams.inside.outputs.bytes in
    let new = streams_by g.R.Read.remaining c.gather.new.input c.run_with-in-Err-Read.new.outputs.bytes in
    let gathered = rw c.in-Err-Read.field-0-is at c.in-Err-Read.ensures.gathered in
    let fault = c.in_err-run_with-in-Err-Read.field-0.0 in
    rw (← c.streams.view_is) (error_returned c.from_residual-in_err-run_with-in-Err-Read.result fault _ c.from_residual-in_err-run_with-in-Err-Read.ensures.1
    (not_read fault (on_null true) job old new c.in_err-run_with-in-Err-Read.ensures.fault
    (null_part_stopped c.args.settings c.args.runner.now _ (map view c.gather.new.values.items) old new gathered refl c.in_err-run_with-in-Err-Read.ensures.err)))

pub returns-in-Err-clause-stopped : goal.returns-in-Err-clause-stopped
returns-in-Err-clause-stopped g c =
    let job = job_of c.args.settings c.args.runner.now in
    let old = streams_by g.R.Read.remaining c.streams.inside.input c.streams.inside.outputs.bytes in
    rw (← c.streams.view_is) (not_read c.in-Err.fault (on_null true) job old _ (search rules) (unbegun (on_null true) job old (g.R.Read.remaining (device_of c.gather.new.input))))

pub returns-in_ok-fault-in-Ok-clause-read_failed : goal.returns-in_ok-fault-in-Ok-clause-read_failed
returns-in_ok-fault-in-Ok-clause-read_failed g c = if_other c.run_with.result _ _ c.run_with.ensures.fault

pub returns-in_ok-fault-in-Ok-clause-write_failed : goal.returns-in_ok-fault-in-Ok-clause-write_failed
returns-in_ok-fault-in-Ok-clause-write_failed g c = rw (← c.streams.view_is) (if_err_map c.run_with.result c.run_with.ensures.blamed (λ f blamed. write_failed f _ _ blamed))

pub returns-in_err-run_with-in-Err-Read-clause-write_failed : goal.returns-in_err-run_with-in-Err-Read-clause-write_failed
returns-in_err-run_with-in-Err-Read-clause-write_failed g c =
    let fault = c.in_err-run_with-in-Err-Read.field-0.0 in
    rw (← c.streams.view_is) (error_returned c.from_residual-in_err-run_with-in-Err-Read.result fault _ c.from_residual-in_err-run_with-in-Err-Read.ensures.1 (λ is. write_failed fault _ _ c.in_err-run_with-in-Err-Read.ensures.blamed is))
