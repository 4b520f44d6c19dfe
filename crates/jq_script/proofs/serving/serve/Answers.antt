use Rattle.std.proofs.Common.{◌≡◌, ◌<◌, ◌≤◌, length, refl, ◌∙◌, rules, arith}
use Rattle.std.proofs.lemmas.Grind.{common_steps}
use Rattle.jq_devices.proofs.shared.Failures.{failed_after}
use Rattle.jq_devices.specs.Watched.{device_of}
use Rattle.jq_devices.specs.declared.faults.StreamFault.TheVariants.{NoMemory}
use Rattle.jv_data.proofs.shared.Results.{error_returned, if_err_map, if_other, on_err, on_err_map, on_ok_map}
use Rattle.jq_script.specs.Serving.{serving, IsStopped, point_of}
use Rattle.jq_script.proofs.Going.{consumed_bytes, going_begun, going_on, going_served, last_stopped, nothing_read, one_pass_begun, one_pass_last, one_pass_piece, one_pass_read, piece_stopped, read_stopped, result_stopped, short_piece, stopped_by, unbegun}
use Rattle.jq_script.proofs.serving.serve.Goals as goal

pub returns-in_err-piece-clause-stopped : goal.returns-in_err-piece-clause-stopped
returns-in_err-piece-clause-stopped g c =
    let old = serving (g.R.Read.remaining (device_of c.args.input.now)) (g.W.Write.contents (device_of c.args.output.now)) (point_of c.args.host.now) in
    error_returned c.from_residual.result NoMemory (λ f. IsStopped c.args.follow f old old) c.from_residual.ensures.1 (unbegun old)

pub loop-line-init : goal.loop-line-init
loop-line-init g c = record { going = going_begun _ _ c.new-line.ensures; room = c.in_ok-piece.ensures; input = refl; output = refl }

pub returns-in-Ok-eq0-clause-served : goal.returns-in-Ok-eq0-clause-served
returns-in-Ok-eq0-clause-served g c =
    let old = serving (g.R.Read.remaining (device_of c.args.input.now)) (g.W.Write.contents (device_of c.args.output.now)) (point_of c.args.host.now) in
    let mid = serving (g.R.Read.remaining (device_of c.loop-line.input)) (g.W.Write.contents (device_of c.loop-line.output)) (point_of c.loop-line.host) in
    let new = serving (g.R.Read.remaining (device_of c.read.new.self)) (g.W.Write.contents (device_of c.serve_last.new.output)) (point_of c.serve_last.new.host) in
    let bytes = c.in-Ok-eq0.ensures.bytes in
    let zero : c.in-Ok-eq0.field-0 ≡ 0 = first_of (search rules, omega arith, grind (arith, common_steps)) in
    let room : 0 < length c.read.new.buf = omega (arith, c.deref_mut.ensures.len, c.loop-line.invariant.room) in
    on_ok_map c.serve_last.result c.serve_last.ensures.ok
    (λ ok. going_served old mid new c.loop-line.line c.loop-line.invariant.going (nothing_read _ _ c.in-Ok-eq0.field-0 c.read.new.buf zero bytes.0) (bytes.1 zero room) ok)

pub returns-in-Ok-eq0-clause-stopped : goal.returns-in-Ok-eq0-clause-stopped
returns-in-Ok-eq0-clause-stopped g c =
    let old = serving (g.R.Read.remaining (device_of c.args.input.now)) (g.W.Write.contents (device_of c.args.output.now)) (point_of c.args.host.now) in
    let mid = serving (g.R.Read.remaining (device_of c.loop-line.input)) (g.W.Write.contents (device_of c.loop-line.output)) (point_of c.loop-line.host) in
    let new = serving (g.R.Read.remaining (device_of c.read.new.self)) (g.W.Write.contents (device_of c.serve_last.new.output)) (point_of c.serve_last.new.host) in
    let bytes = c.in-Ok-eq0.ensures.bytes in
    let zero : c.in-Ok-eq0.field-0 ≡ 0 = first_of (search rules, omega arith, grind (arith, common_steps)) in
    let room : 0 < length c.read.new.buf = omega (arith, c.deref_mut.ensures.len, c.loop-line.invariant.room) in
    result_stopped c.serve_last.result old new c.serve_last.ensures.fault c.serve_last.ensures.err
    (λ err. last_stopped old mid new c.loop-line.line c.loop-line.invariant.going (nothing_read _ _ c.in-Ok-eq0.field-0 c.read.new.buf zero bytes.0) (bytes.1 zero room) err)

pub returns-in_err-serve_bytes-in-Ok-clause-stopped : goal.returns-in_err-serve_bytes-in-Ok-clause-stopped
returns-in_err-serve_bytes-in-Ok-clause-stopped g c =
    let old = serving (g.R.Read.remaining (device_of c.args.input.now)) (g.W.Write.contents (device_of c.args.output.now)) (point_of c.args.host.now) in
    let mid = serving (g.R.Read.remaining (device_of c.loop-line.input)) (g.W.Write.contents (device_of c.loop-line.output)) (point_of c.loop-line.host) in
    let new = serving (g.R.Read.remaining (device_of c.read.new.self)) (g.W.Write.contents (device_of c.serve_bytes.new.output)) (point_of c.serve_bytes.new.host) in
    let same : c.deref.result.now ≡ c.read.new.buf = first_of (search rules, grind (arith, common_steps)) in
    let fault = c.in_err-serve_bytes-in-Ok.field-0.0 in
    error_returned c.from_residual-in_err-serve_bytes-in-Ok.result fault (λ f. IsStopped c.args.follow f old new) c.from_residual-in_err-serve_bytes-in-Ok.ensures.1
    (stopped_by fault old new c.in_err-serve_bytes-in-Ok.ensures.fault (piece_stopped old mid new c.loop-line.line _ c.loop-line.invariant.going c.in_err-serve_bytes-in-Ok.ensures.err
    (consumed_bytes _ _ c.in-Ok.len c.read.new.buf _ (grind (arith, common_steps)) c.in-Ok.ensures.bytes.0)))

pub returns-in-Err-clause-stopped : goal.returns-in-Err-clause-stopped
returns-in-Err-clause-stopped g c =
    let old = serving (g.R.Read.remaining (device_of c.args.input.now)) (g.W.Write.contents (device_of c.args.output.now)) (point_of c.args.host.now) in
    let mid = serving (g.R.Read.remaining (device_of c.loop-line.input)) (g.W.Write.contents (device_of c.loop-line.output)) (point_of c.loop-line.host) in
    let new = serving (g.R.Read.remaining (device_of c.read.new.self)) (g.W.Write.contents (device_of c.loop-line.output)) (point_of c.loop-line.host) in
    read_stopped c.read_fault.result old mid new c.loop-line.line c.loop-line.invariant.going c.in-Err.ensures.bytes refl c.read_fault.ensures.unwritten

pub returns-in_err-piece-clause-one_pass : goal.returns-in_err-piece-clause-one_pass
returns-in_err-piece-clause-one_pass g c =
    on_err c.from_residual.result
    (one_pass_begun (serving (g.R.Read.remaining (device_of c.args.input.now)) (g.W.Write.contents (device_of c.args.output.now)) (point_of c.args.host.now)))

pub returns-in-Ok-eq0-clause-one_pass : goal.returns-in-Ok-eq0-clause-one_pass
returns-in-Ok-eq0-clause-one_pass g c =
    let old = serving (g.R.Read.remaining (device_of c.args.input.now)) (g.W.Write.contents (device_of c.args.output.now)) (point_of c.args.host.now) in
    let mid = serving (g.R.Read.remaining (device_of c.loop-line.input)) (g.W.Write.contents (device_of c.loop-line.output)) (point_of c.loop-line.host) in
    let new = serving (g.R.Read.remaining (device_of c.read.new.self)) (g.W.Write.contents (device_of c.serve_last.new.output)) (point_of c.serve_last.new.host) in
    let bytes = c.in-Ok-eq0.ensures.bytes in
    let zero : c.in-Ok-eq0.field-0 ≡ 0 = first_of (search rules, omega arith, grind (arith, common_steps)) in
    on_err_map c.serve_last.result c.serve_last.ensures.err
    (λ err. one_pass_last old mid new c.loop-line.line c.loop-line.invariant.going (nothing_read _ _ c.in-Ok-eq0.field-0 c.read.new.buf zero bytes.0) err)

pub returns-in_err-serve_bytes-in-Ok-clause-one_pass : goal.returns-in_err-serve_bytes-in-Ok-clause-one_pass
returns-in_err-serve_bytes-in-Ok-clause-one_pass g c =
    let old = serving (g.R.Read.remaining (device_of c.args.input.now)) (g.W.Write.contents (device_of c.args.output.now)) (point_of c.args.host.now) in
    let mid = serving (g.R.Read.remaining (device_of c.loop-line.input)) (g.W.Write.contents (device_of c.loop-line.output)) (point_of c.loop-line.host) in
    let new = serving (g.R.Read.remaining (device_of c.read.new.self)) (g.W.Write.contents (device_of c.serve_bytes.new.output)) (point_of c.serve_bytes.new.host) in
    let same : c.deref.result.now ≡ c.read.new.buf = first_of (search rules, grind (arith, common_steps)) in
    let whole : length c.read.new.buf ≤ 65536 = omega (arith, c.deref_mut.ensures.len, c.loop-line.invariant.room) in
    on_err c.from_residual-in_err-serve_bytes-in-Ok.result
    (one_pass_piece old mid new c.loop-line.line _ c.loop-line.invariant.going c.in_err-serve_bytes-in-Ok.ensures.err
    (consumed_bytes _ _ c.in-Ok.len c.read.new.buf _ (grind (arith, common_steps)) c.in-Ok.ensures.bytes.0) (short_piece c.in-Ok.len c.read.new.buf _ (grind (arith, common_steps)) whole))

pub returns-in-Err-clause-one_pass : goal.returns-in-Err-clause-one_pass
returns-in-Err-clause-one_pass g c =
    let old = serving (g.R.Read.remaining (device_of c.args.input.now)) (g.W.Write.contents (device_of c.args.output.now)) (point_of c.args.host.now) in
    let mid = serving (g.R.Read.remaining (device_of c.loop-line.input)) (g.W.Write.contents (device_of c.loop-line.output)) (point_of c.loop-line.host) in
    let new = serving (g.R.Read.remaining (device_of c.read.new.self)) (g.W.Write.contents (device_of c.loop-line.output)) (point_of c.loop-line.host) in
    one_pass_read old mid new c.loop-line.line c.loop-line.invariant.going c.in-Err.ensures.bytes refl

pub loop-line-preserved : goal.loop-line-preserved
loop-line-preserved g c =
    let old = serving (g.R.Read.remaining (device_of c.args.input.now)) (g.W.Write.contents (device_of c.args.output.now)) (point_of c.args.host.now) in
    let mid = serving (g.R.Read.remaining (device_of c.loop-line.input)) (g.W.Write.contents (device_of c.loop-line.output)) (point_of c.loop-line.host) in
    let new = serving (g.R.Read.remaining (device_of c.read.new.self)) (g.W.Write.contents (device_of c.serve_bytes.new.output)) (point_of c.serve_bytes.new.host) in
    let same : c.deref.result.now ≡ c.read.new.buf = first_of (search rules, grind (arith, common_steps)) in
    record {
      going = going_on old mid new c.loop-line.line c.serve_bytes.new.line _ c.loop-line.invariant.going c.in_ok-serve_bytes-in-Ok.ensures.ok
          (consumed_bytes _ _ c.in-Ok.len c.read.new.buf _ (grind (arith, common_steps)) c.in-Ok.ensures.bytes.0);
      room = c.loop-line.invariant.room;
      input = c.in-Ok.ensures.unfailed ∙ c.loop-line.invariant.input;
      output = c.in_ok-serve_bytes-in-Ok.ensures.unfailed ∙ c.loop-line.invariant.output;
    }

pub returns-in-Ok-eq0-clause-read_failed : goal.returns-in-Ok-eq0-clause-read_failed
returns-in-Ok-eq0-clause-read_failed g c = if_other c.serve_last.result _ _ c.serve_last.ensures.fault

pub returns-in-Ok-eq0-clause-write_failed : goal.returns-in-Ok-eq0-clause-write_failed
returns-in-Ok-eq0-clause-write_failed g c = if_err_map c.serve_last.result c.serve_last.ensures.failed (λ f failed is. failed_after _ _ _ c.loop-line.invariant.output (failed is))

pub returns-in_err-serve_bytes-in-Ok-clause-write_failed : goal.returns-in_err-serve_bytes-in-Ok-clause-write_failed
returns-in_err-serve_bytes-in-Ok-clause-write_failed g c =
    error_returned c.from_residual-in_err-serve_bytes-in-Ok.result c.in_err-serve_bytes-in-Ok.field-0.0 _ c.from_residual-in_err-serve_bytes-in-Ok.ensures.1
    (λ is. failed_after _ _ _ c.loop-line.invariant.output (c.in_err-serve_bytes-in-Ok.ensures.failed is))

pub returns-in-Err-clause-read_failed : goal.returns-in-Err-clause-read_failed
returns-in-Err-clause-read_failed g c = λ is. failed_after _ _ _ c.loop-line.invariant.input c.in-Err.ensures.failed
