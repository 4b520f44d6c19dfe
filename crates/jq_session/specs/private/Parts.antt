-- The output or the errors of a piece.
use Rattle.std.specs.Prelude.{ℕ, List, map}
use Rattle.std.specs.List.{flat_map}
use Rattle.jq_pages.specs.Pieces.{PieceView, piece_view}
use Rattle.jq_pages.specs.declared.pieces.Piece.{Piece}
use Rattle.jq_session.specs.declared.writing.Part.{Part}
use Rattle.jq_session.specs.declared.writing.Part.TheVariants as part

abbrev pub part_in : Part → PieceView → List ℕ
part_in part.Output p = p.out
part_in part.Errors p = p.err

-- this part of all pieces, one after the other
abbrev pub parts_of : Part → List Piece → List ℕ
parts_of part pieces = flat_map (part_in part) (map piece_view pieces)
