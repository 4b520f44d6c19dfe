use Rattle.jq_pages.proofs.Sums.{all_pieces_more, bounded_with, few_here, room_err, room_failed, room_out, totals_join}
use Rattle.jq_pages.proofs.summing.totals_in.Goals as goal

pub and-sum-requires-clause-out : goal.and-sum-requires-clause-out
and-sum-requires-clause-out g c = room_out _ _ _ _ c.loop-page.invariant.bounded c.page-item.result.pieces.bounded (few_here c.args.pages.now c.loop-page.page-index c.page-item.result c.loop-page-test.true c.page-item.is c.requires)

pub and-sum-requires-clause-err : goal.and-sum-requires-clause-err
and-sum-requires-clause-err g c = room_err _ _ _ _ c.loop-page.invariant.bounded c.page-item.result.pieces.bounded (few_here c.args.pages.now c.loop-page.page-index c.page-item.result c.loop-page-test.true c.page-item.is c.requires)

pub and-sum-requires-clause-failed : goal.and-sum-requires-clause-failed
and-sum-requires-clause-failed g c = room_failed _ _ _ _ c.loop-page.invariant.bounded c.page-item.result.pieces.bounded (few_here c.args.pages.now c.loop-page.page-index c.page-item.result c.loop-page-test.true c.page-item.is c.requires)

pub loop-page-preserved : goal.loop-page-preserved
loop-page-preserved g c = record {
  value = totals_join _ _ _ _ _ _ c.loop-page.invariant.value c.page-item.result.pieces.summed c.and-sum.ensures (all_pieces_more c.args.pages.now c.loop-page.page-index c.page-item.result c.loop-page-test.true c.page-item.is);
  bounded = bounded_with _ _ c.args.pages.now c.loop-page.page-index c.page-item.result c.loop-page-test.true c.page-item.is c.loop-page.invariant.bounded c.and-sum.ensures;
}
