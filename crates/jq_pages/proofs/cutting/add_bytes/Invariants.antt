use Rattle.std.proofs.Common.{map, take}
use Rattle.jq_pages.specs.Pieces.{piece_view}
use Rattle.jq_pages.specs.private.Cuts.{AddsBytes}
use Rattle.jq_pages.proofs.cutting.add_bytes.Given as goal

abbrev pub invariant-loop-piece : goal.invariant-loop-piece
invariant-loop-piece l = AddsBytes l.fn.bytes l.bytes (map piece_view (take l.piece-index l.pieces))
