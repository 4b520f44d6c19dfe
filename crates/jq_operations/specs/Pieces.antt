-- The pieces of a string.
use Rattle.std.specs.Prelude.{List, map, String}
use Rattle.std.specs.declared.alloc.Global.{Global}
use Rattle.jq_ast.specs.Named.{named_piece, pieces_of}
use Rattle.jq_ast.specs.declared.tree.Piece.{Piece}
use Rattle.jq_ast.specs.declared.tree.Tree.{Tree}
use Rattle.jq_tree.specs.Tree as tree

abbrev pub named_pieces : List (Piece Tree) → String Global → tree.Pieces
named_pieces ps last = pieces_of (map named_piece ps) last
