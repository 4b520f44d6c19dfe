use Rattle.std.proofs.Common.{Some, refl, sym, ap, ◌∙◌}
use Rattle.jq_stream.proofs.Piecing.{piece_made}
use Rattle.jq_stream.proofs.pieces.piece_of_run.Goals as goal

pub returns : goal.returns
returns c = λ r is.
    let over = c.in_ok-write_buffers.ensures in
    let devices = c.into_devices-out.ensures in
    piece_made c.args.style r _ _ c.write_buffers.new.self _ _ c.write_buffers.new.outputs.bytes
    (record { out = c.into_devices-out.result.0; err = c.into_devices-out.result.1; last = c.write_buffers.new.self.last; failed = c.write_buffers.new.self.failed; halt = c.in_ok-halt.halt })
    c.new-answers.ensures.empty c.new-answers.ensures.fresh (c.in_ok-halt.ensures.ok r is) over.written over.emptied
    (c.new-outputs.ensures.output ∙ ap Some c.new.ensures.items) (c.new-outputs.ensures.errors ∙ ap Some c.new-2.ensures.items)
    (sym devices.output) (sym devices.errors) refl refl (c.in_ok-halt.ensures.halt r is)
