use Rattle.std.proofs.Common.{◌∙◌}
use Rattle.jv_data.specs.View.{view}
use Rattle.jq_pages.specs.Pieces.{piece_view}
use Rattle.jq_pages.proofs.Folds.{mapped_more, step_more, rises_more, map_snoc}
use Rattle.jq_pages.proofs.running.run_on.Goals as goal

pub loop-input-preserved : goal.loop-input-preserved
loop-input-preserved g c =
    let inv = c.loop-input.invariant in
    let more = mapped_more view c.args.inputs.now c.loop-input.input-index c.input-item.result c.loop-input-test.true c.input-item.is in
    let ans = c.in_ok-piece.ensures in
    let pushed = map_snoc piece_view _ _ _ c.in_ok-push.ensures.items in
    let both = step_more _ _ _ _ _ _ _ _ _ _ _ _ more inv.same inv.exit inv.pieces ans.state ans.piece pushed in
    record {
      exit = both.0;
      pieces = both.1;
      same = ans.same ∙ inv.same;
      rises = rises_more _ _ _ _ _ inv.rises ans.rises;
    }
