use Rattle.std.proofs.Common.{◌∙◌, refl}
use Rattle.jv_data.proofs.shared.Results.{error_returned, on_err}
use Rattle.jq_devices.proofs.shared.Failures.{failed_after}
use Rattle.jq_script.proofs.Going.{amid_begun, amid_ended, amid_line, amid_stopped, line_stopped}
use Rattle.jq_script.proofs.serving.serve_bytes.Goals as goal

pub loop-end-init : goal.loop-end-init
loop-end-init g c = record { amid = λ begun clean has. amid_begun begun c.args.bytes.now c.args.line.now _ clean has; unfailed = refl }

pub loop-end-preserved : goal.loop-end-preserved
loop-end-preserved g c = record {
  amid = λ begun clean has.
      let around = c.in-Some.ensures in
      amid_line begun c.args.bytes.now _ c.in-Some.end.now c.in-Some.others.now _ _ _ _ _ _ (c.loop-end.invariant.amid begun clean has) around.0 around.1 c.in_ok-add.ensures c.in_ok-serve_line.ensures.ok
      c.clear.ensures;
  unfailed = c.in_ok-serve_line.ensures.unfailed ∙ c.loop-end.invariant.unfailed;
}

pub returns-in_err-add-clause-err : goal.returns-in_err-add-clause-err
returns-in_err-add-clause-err g c =
    on_err c.from_residual.result (λ begun clean has. amid_stopped begun c.args.bytes.now c.loop-end.rest.now c.loop-end.line _ _ (c.loop-end.invariant.amid begun clean has))

pub returns-in_err-serve_line-clause-err : goal.returns-in_err-serve_line-clause-err
returns-in_err-serve_line-clause-err g c = on_err c.from_residual-in_err-serve_line.result (λ begun clean has.
    let around = c.in-Some.ensures in
    line_stopped begun c.args.bytes.now _ c.in-Some.end.now c.in-Some.others.now _ _ _ _ _ (c.loop-end.invariant.amid begun clean has) around.0 around.1 c.in_ok-add.ensures c.in_err-serve_line.ensures.err)

pub returns-in_err-add-2-clause-err : goal.returns-in_err-add-2-clause-err
returns-in_err-add-2-clause-err g c =
    on_err c.from_residual-in_err-add-2.result (λ begun clean has. amid_stopped begun c.args.bytes.now c.loop-end.rest.now c.loop-end.line _ _ (c.loop-end.invariant.amid begun clean has))

pub returns-clause-ok : goal.returns-clause-ok
returns-clause-ok g c = λ begun clean has.
    amid_ended begun c.args.bytes.now c.loop-end.rest.now c.loop-end.line c.add-2.new.self _ _ (c.loop-end.invariant.amid begun clean has) c.in_default.ensures c.in_ok-add-2.ensures

pub returns-in_err-serve_line-clause-failed : goal.returns-in_err-serve_line-clause-failed
returns-in_err-serve_line-clause-failed g c =
    error_returned c.from_residual-in_err-serve_line.result c.in_err-serve_line.field-0.0 _ c.from_residual-in_err-serve_line.ensures.1
    (λ is. failed_after _ _ _ c.loop-end.invariant.unfailed (c.in_err-serve_line.ensures.failed is))
