-- The pieces of a string, with the trees in them.
use Rattle.std.specs.Prelude.{List, [], ◌∷◌}
use Rattle.jv_data.specs.Text.{text_of}
use Rattle.jq_tree.specs.Tree as tree
use Rattle.jq_ast.specs.Named.{named}
use Rattle.jq_ast.specs.declared.tree.Piece.{Piece}
use Rattle.jq_ast.specs.declared.tree.Tree.{Tree}

abbrev pub pieces_in : List (Piece Tree) → tree.Pieces
pieces_in [] = tree.last_piece []
pieces_in (p ∷ ps) = tree.more_pieces (text_of p.before) (named p.tree) (pieces_in ps)
