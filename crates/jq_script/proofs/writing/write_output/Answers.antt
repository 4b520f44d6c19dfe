use Rattle.std.proofs.Common.{◌∙◌, codes}
use Rattle.jq_devices.proofs.shared.Failures.{failed_after}
use Rattle.jq_devices.specs.Watched.{device_of}
use Rattle.jq_session.specs.Sessions.{state_of}
use Rattle.jq_session.specs.States.{outcome}
use Rattle.jv_data.proofs.shared.Results.{err_mapped, if_err_map, ok_mapped, on_err}
use Rattle.jq_script.proofs.Turning.{number_first, bytes_first}
use Rattle.jq_script.proofs.writing.write_output.Goals as goal

pub returns-in_err-write_number-clause-err : goal.returns-in_err-write_number-clause-err
returns-in_err-write_number-clause-err g c =
    let old = g.W.Write.contents (device_of c.args.output.now) in
    let new = g.W.Write.contents (device_of c.write_number.new.output) in
    let bytes = (outcome (state_of c.args.session.now)).output in
    on_err c.from_residual.result (number_first old new (codes "out") c.out_len.result bytes c.out_len.ensures c.in_err-write_number.ensures.err)

pub returns-clause-err : goal.returns-clause-err
returns-clause-err g c =
    let old = g.W.Write.contents (device_of c.args.output.now) in
    let mid = g.W.Write.contents (device_of c.write_number.new.output) in
    let new = g.W.Write.contents (device_of c.write_out.new.writer) in
    let bytes = (outcome (state_of c.args.session.now)).output in
    err_mapped c.write_out.result c.map_err.result c.map_err.ensures.variant c.write_out.ensures.err
    (bytes_first old mid new (codes "out") c.out_len.result bytes c.out_len.ensures c.in_ok-write_number.ensures.ok)

pub returns-clause-unfailed : goal.returns-clause-unfailed
returns-clause-unfailed g c =
    ok_mapped c.write_out.result c.map_err.result c.map_err.ensures.variant c.write_out.ensures.unfailed (λ same. same ∙ c.in_ok-write_number.ensures.unfailed)

pub returns-clause-failed : goal.returns-clause-failed
returns-clause-failed g c =
    let failed = err_mapped c.write_out.result c.map_err.result c.map_err.ensures.variant c.write_out.ensures.failed (failed_after _ _ _ c.in_ok-write_number.ensures.unfailed) in
    if_err_map c.map_err.result failed (λ f failed is. failed)
