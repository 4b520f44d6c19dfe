use Rattle.std.proofs.Common.{map, subst}
use Rattle.jq_pages.specs.Pieces.{piece_view}
use Rattle.jq_pages.specs.private.Cuts.{AddsBytes}
use Rattle.jq_pages.proofs.Cuts.{adds_more, adds_none, runs_pieces_more}
use Rattle.jq_pages.proofs.cutting.add_runs.Goals as goal

pub loop-run-init : goal.loop-run-init
loop-run-init g c = adds_none c.args.bytes.now

pub loop-run-preserved : goal.loop-run-preserved
loop-run-preserved g c =
    adds_more _ _ _ _ _ _ (runs_pieces_more c.args.runs.now c.loop-run.run-index c.run-item.result c.loop-run-test.true c.run-item.is) c.loop-run.invariant
    (subst (λ z. AddsBytes c.loop-run.bytes c.add_bytes.new.bytes (map piece_view z)) c.deref.ensures.value c.in_ok-add_bytes.ensures)
