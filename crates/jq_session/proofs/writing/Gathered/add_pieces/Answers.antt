use Rattle.std.proofs.Common.{◌∙◌, ◌++◌, take, map, subst, ap}
use Rattle.std.specs.List.{flat_map}
use Rattle.jq_devices.specs.Watched.{device_of}
use Rattle.jq_pages.specs.Pieces.{piece_view}
use Rattle.jv_data.proofs.shared.Results.{on_err}
use Rattle.jq_session.specs.private.Parts.{part_in}
use Rattle.jq_session.specs.private.Writing.{IsPassed}
use Rattle.jq_session.proofs.Passing.{passed_more, piece_first, pieces_more}
use Rattle.jq_session.proofs.writing.Gathered.add_pieces.Goals as goal

pub returns-in_err-add-clause-err : goal.returns-in_err-add-clause-err
returns-in_err-add-clause-err g c =
    on_err c.from_residual.result
    (piece_first (part_in c.args.part) c.args.pieces.now c.loop-piece.piece-index c.piece-item.result c.args.self.now.bytes.items c.loop-piece.self.bytes.items c.bytes_of.result.now
    (g.W.Write.contents (device_of c.args.writer.now)) (g.W.Write.contents (device_of c.loop-piece.writer)) (g.W.Write.contents (device_of c.add.new.writer)) c.loop-piece-test.true c.piece-item.is c.bytes_of.ensures
    c.loop-piece.invariant.passed c.in_err-add.ensures.err)

pub loop-piece-preserved : goal.loop-piece-preserved
loop-piece-preserved g c =
    let f = part_in c.args.part in
    let r = g.W.Write.contents (device_of c.args.writer.now) in
    let s = g.W.Write.contents (device_of c.loop-piece.writer) in
    let t = g.W.Write.contents (device_of c.add.new.writer) in
    let u = c.args.self.now.bytes.items in
    let v = c.loop-piece.self.bytes.items in
    let w = c.add.new.self.bytes.items in
    let front = flat_map f (map piece_view (take c.loop-piece.piece-index c.args.pieces.now)) in
    record {
      passed =
          subst (IsPassed u w r t) (ap (λ l. front ++ l) c.bytes_of.ensures ∙ pieces_more f c.args.pieces.now c.loop-piece.piece-index c.piece-item.result c.loop-piece-test.true c.piece-item.is)
          (passed_more u v w r s t front c.bytes_of.result.now c.loop-piece.invariant.passed c.in_ok-add.ensures.ok);
      unfailed = c.in_ok-add.ensures.unfailed ∙ c.loop-piece.invariant.unfailed;
    }
