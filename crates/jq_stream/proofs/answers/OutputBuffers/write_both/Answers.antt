use Rattle.std.proofs.Common.{subst}
use Rattle.jq_devices.proofs.shared.Writing.{first_result}
use Rattle.jq_devices.specs.Watched.{device_of}
use Rattle.jq_devices.specs.Writing.{AppendsFirst}
use Rattle.jv_data.proofs.shared.Results.{on_err}
use Rattle.jq_stream.proofs.answers.OutputBuffers.write_both.Goals as goal

pub returns-in_err-write-clause-first : goal.returns-in_err-write-clause-first
returns-in_err-write-clause-first g c =
    let old = g.O.Write.contents (device_of c.outputs.inside.output) in
    let new = g.O.Write.contents (device_of c.write-printed.new.writer) in
    let errors_old = g.E.Write.contents (device_of c.outputs.inside.errors) in
    let errors_new = g.E.Write.contents (device_of c.write.new.writer) in
    rw (← c.outputs.view_is) (on_err c.from_residual.result (record {
      output = subst (AppendsFirst old new) c.deref.ensures.value (first_result c.write-printed.result old new c.deref.result.now c.write-printed.ensures.ok c.write-printed.ensures.err);
      errors = subst (AppendsFirst errors_old errors_new) c.deref-2.ensures.value c.in_err-write.ensures.err;
    }))
