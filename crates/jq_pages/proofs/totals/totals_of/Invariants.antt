use Rattle.std.proofs.Common.{◌≡◌, map, take}
use Rattle.jq_pages.specs.Pieces.{piece_view}
use Rattle.jq_pages.specs.Totals.{totals}
use Rattle.jq_pages.specs.private.Bounds.{IsBounded}
use Rattle.jq_pages.proofs.totals.totals_of.Given as goal

abbrev pub invariant-loop-piece : goal.invariant-loop-piece
invariant-loop-piece l = record {
  value : l.sum ≡ totals (map piece_view (take l.piece-index l.pieces));
  bounded : IsBounded l.sum l.piece-index;
}
