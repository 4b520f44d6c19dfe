use Rattle.std.proofs.Common.{◌++◌, ap, ◌∙◌}
use Rattle.jq_pages.specs.Pieces.{piece_view}
use Rattle.jq_pages.proofs.Cuts.{adds_none, adds_one}
use Rattle.jq_pages.proofs.Folds.{mapped_more}
use Rattle.jq_pages.proofs.cutting.add_bytes.Goals as goal

pub loop-piece-init : goal.loop-piece-init
loop-piece-init c = adds_none c.args.bytes.now

pub loop-piece-preserved : goal.loop-piece-preserved
loop-piece-preserved c =
    adds_one _ _ _ _ _ c.piece-item.result (mapped_more piece_view c.args.pieces.now c.loop-piece.piece-index c.piece-item.result c.loop-piece-test.true c.piece-item.is) c.loop-piece.invariant
    (c.in_ok-extend_from_slice.ensures.items ∙ ap (λ z. c.loop-piece.bytes.out.items ++ z) c.deref.ensures.value)
    (c.in_ok-extend_from_slice-2.ensures.items ∙ ap (λ z. c.loop-piece.bytes.err.items ++ z) c.deref-in-loop-piece.ensures.value)
