use Rattle.std.proofs.Common.{rules}
use Rattle.jq_pages.specs.Pieces.{piece_view}
use Rattle.jq_pages.proofs.Folds.{mapped_more}
use Rattle.jq_pages.proofs.Sums.{bounded_joined, room_err, room_failed, room_out, totals_more}
use Rattle.jq_pages.proofs.totals.totals_of.Goals as goal

pub and-sum-requires-clause-out : goal.and-sum-requires-clause-out
and-sum-requires-clause-out c = room_out _ _ c.loop-piece.piece-index 1 c.loop-piece.invariant.bounded c.of.ensures.bounded (search rules)

pub and-sum-requires-clause-err : goal.and-sum-requires-clause-err
and-sum-requires-clause-err c = room_err _ _ c.loop-piece.piece-index 1 c.loop-piece.invariant.bounded c.of.ensures.bounded (search rules)

pub and-sum-requires-clause-failed : goal.and-sum-requires-clause-failed
and-sum-requires-clause-failed c = room_failed _ _ c.loop-piece.piece-index 1 c.loop-piece.invariant.bounded c.of.ensures.bounded (search rules)

pub loop-piece-preserved : goal.loop-piece-preserved
loop-piece-preserved c = record {
  value = totals_more _ _ _ _ _ _ c.loop-piece.invariant.value c.of.ensures.value c.and-sum.ensures (mapped_more piece_view c.args.pieces.now c.loop-piece.piece-index c.piece-item.result c.loop-piece-test.true c.piece-item.is);
  bounded = bounded_joined _ _ _ c.loop-piece.piece-index 1 c.loop-piece.invariant.bounded c.of.ensures.bounded c.and-sum.ensures;
}
