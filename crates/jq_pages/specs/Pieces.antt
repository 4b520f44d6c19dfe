-- What a step writes, without the layout of its vectors.
use Rattle.std.specs.Prelude.{ℕ, List, Bool, Option}
use Rattle.jq_pages.specs.declared.pieces.Last.{Last}
use Rattle.jq_pages.specs.declared.pieces.Piece.{Piece}

-- `halt` is the status, if the run of the filter halted.
pub record PieceView : Type 0 where
  pub out : List ℕ
  pub err : List ℕ
  pub last : Last
  pub failed : Bool
  pub halt : Option ℕ

unfoldable pub piece_view : Piece → PieceView
piece_view p = record { out = p.out.items; err = p.err.items; last = p.last; failed = p.failed; halt = p.halt }
