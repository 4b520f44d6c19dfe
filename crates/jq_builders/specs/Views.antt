-- What the parts of trees in the code stand for.
use Rattle.std.specs.Prelude.{ℕ, List, map, Option, Some, None, Box}
use Rattle.std.specs.declared.alloc.Global.{Global}
use Rattle.jv_data.specs.Text.{text_of}
use Rattle.jq_tree.specs.Tree as tree
use Rattle.jq_tree.specs.WrittenOut as written
use Rattle.jq_ast.specs.Named.{named, named_as_pattern}
use Rattle.jq_ast.specs.declared.tree.Piece.{Piece}
use Rattle.jq_ast.specs.declared.tree.Pattern.{Pattern}
use Rattle.jq_ast.specs.declared.tree.Tree.{Tree}
use Rattle.jq_builders.specs.Trees as built
use Rattle.jq_builders.specs.declared.parts.Branch.{Branch}
use Rattle.jq_builders.specs.declared.parts.Text.{Text}
use Rattle.jq_builders.specs.declared.parts.EntryKey.{EntryKey}
use Rattle.jq_builders.specs.declared.parts.EntryKey.TheVariants as entry_key
use Rattle.jq_builders.specs.declared.parts.ValueKey.{ValueKey}
use Rattle.jq_builders.specs.declared.parts.ValueKey.TheVariants as value_key
use Rattle.jq_builders.specs.declared.parts.PartKey.{PartKey}
use Rattle.jq_builders.specs.declared.parts.PartKey.TheVariants as part_key
use Rattle.jq_builders.specs.declared.parts.Parameter.{Parameter}
use Rattle.jq_builders.specs.declared.parts.Parameter.TheVariants as parameter
use Rattle.jq_builders.specs.declared.parts.Definition.{Definition}

abbrev pub tree_in : Box Tree Global → tree.Tree
tree_in b = named b.value

abbrev pub pattern_in : Box Pattern Global → tree.Pattern
pattern_in b = named_as_pattern b.value

abbrev pub maybe : Option (Box Tree Global) → Option tree.Tree
maybe None = None
maybe (Some b) = Some (tree_in b)

abbrev pub branch_of : Branch → tree.Tree × tree.Tree
branch_of b = (tree_in b.test, tree_in b.holds)

abbrev pub piece_of : Piece Tree → List ℕ × tree.Tree
piece_of p = (text_of p.before, named p.tree)

abbrev pub pieces_of : Text → tree.Pieces
pieces_of t = built.onto built.piece_before (map piece_of t.pieces.items) (tree.last_piece (text_of t.last))

abbrev pub entry_key_of : EntryKey → built.EntryKey
entry_key_of (entry_key.Word s) = built.by_word (text_of s)
entry_key_of (entry_key.Text t) = built.by_text (pieces_of t)
entry_key_of (entry_key.Formatted n t) = built.by_format (text_of n) (pieces_of t)

abbrev pub value_key_of : ValueKey → built.ValueKey
value_key_of (value_key.Keyed k) = built.keyed_by (entry_key_of k)
value_key_of (value_key.Computed t) = built.computed_by (tree_in t)

abbrev pub part_key_of : PartKey → built.PartKey
part_key_of (part_key.Tree t) = built.by_tree (tree_in t)
part_key_of (part_key.Variable n) = built.by_variable (text_of n)

abbrev pub parameter_of : Parameter → written.Parameter
parameter_of (parameter.Filter n) = written.by_filter (text_of n)
parameter_of (parameter.Value n) = written.by_value (text_of n)

abbrev pub definition_of : Definition → built.Function
definition_of d = record { named = text_of d.head.name; parameters = map parameter_of d.head.parameters.items; body = tree_in d.body }
