-- A tree as the definition's tree, with the names alone.
use Rattle.std.specs.Prelude.{List, [], ◌∷◌, map, String}
use Rattle.std.specs.declared.alloc.Global.{Global}
use Rattle.jv_data.specs.Text.{text_of}
use Rattle.jq_tree.specs.Tree as tree
use Rattle.jq_ast.specs.Leaves.{literal_of, key_of, operator_of}
use Rattle.jq_ast.specs.declared.names.Name.{Name}
use Rattle.jq_ast.specs.declared.tree.Entry.{Entry}
use Rattle.jq_ast.specs.declared.tree.Entry.TheVariants as entry
use Rattle.jq_ast.specs.declared.tree.Piece.{Piece}
use Rattle.jq_ast.specs.declared.tree.Member.{Member}
use Rattle.jq_ast.specs.declared.tree.Pattern.{Pattern}
use Rattle.jq_ast.specs.declared.tree.Tree.{Tree}
use Rattle.jq_ast.specs.declared.tree.Member.TheFolds.{fold-Tree, fold-Pattern, fold-Member}
use Rattle.jq_ast.specs.declared.tree.Member.TheOpen.{Tree-F, Pattern-F, Member-F}

abbrev pub name_of : Name → tree.Name
name_of n = text_of n.text

abbrev pub pieces_of : List (Piece tree.Tree) → String Global → tree.Pieces
pieces_of [] last = tree.last_piece (text_of last)
pieces_of (p ∷ ps) last = tree.more_pieces (text_of p.before) p.tree (pieces_of ps last)

abbrev pub entry_of : Entry tree.Tree → tree.Entry
entry_of (entry.Named key value) = tree.named (key_of key) value
entry_of (entry.Computed key value) = tree.computed key value
entry_of (entry.Own key) = tree.own key

-- one level; each tree inside is already its definition's tree
abbrev pub named_member : Member-F tree.Part tree.Pattern tree.Tree → tree.Part
named_member (Member-F.Keyed key p) = tree.keyed key.value p
named_member (Member-F.KeyedVariable name p) = tree.keyed_variable (text_of name) p

abbrev pub named_pattern : Pattern-F tree.Part tree.Pattern tree.Tree → tree.Pattern
named_pattern (Pattern-F.Whole name) = tree.whole (text_of name)
named_pattern (Pattern-F.Items ps) = tree.items (tree.patterns_of ps.items)
named_pattern (Pattern-F.Members ps) = tree.members (tree.parts_of ps.items)

abbrev pub named_tree : Tree-F tree.Part tree.Pattern tree.Tree → tree.Tree
named_tree Tree-F.Identity = tree.identity
named_tree Tree-F.Empty = tree.empty
named_tree (Tree-F.Literal v) = tree.literal (literal_of v)
named_tree (Tree-F.Text f ps last) = tree.text (name_of f) (pieces_of ps.items last)
named_tree (Tree-F.Format f) = tree.format (name_of f)
named_tree (Tree-F.Variable n) = tree.variable (name_of n)
named_tree (Tree-F.Field f key mark) = tree.field f.value (key_of key) mark
named_tree (Tree-F.Index f key mark) = tree.index f.value key.value mark
named_tree (Tree-F.Slice f from to mark) = tree.slice f.value from.value to.value mark
named_tree (Tree-F.Iterate f mark) = tree.iterate f.value mark
named_tree (Tree-F.Pipe f g) = tree.pipe f.value g.value
named_tree (Tree-F.Comma f g) = tree.comma f.value g.value
named_tree (Tree-F.Binary op f g) = tree.binary (operator_of op) f.value g.value
named_tree (Tree-F.And f g) = tree.conjunction f.value g.value
named_tree (Tree-F.Or f g) = tree.disjunction f.value g.value
named_tree (Tree-F.Alternative f g) = tree.alternative f.value g.value
named_tree (Tree-F.Negation f) = tree.negation f.value
named_tree (Tree-F.Array f) = tree.array f.value
named_tree (Tree-F.Object es) = tree.object (tree.entries_of (map entry_of es.items))
named_tree (Tree-F.Choice f g h) = tree.choice f.value g.value h.value
named_tree (Tree-F.TryCatch f g) = tree.try_catch f.value g.value
named_tree (Tree-F.Label n f) = tree.label (text_of n) f.value
named_tree (Tree-F.Break n) = tree.break (name_of n)
named_tree (Tree-F.BindAs f p g) = tree.bind_as f.value p.value g.value
named_tree (Tree-F.Reduce f p g h) = tree.reduce f.value p.value g.value h.value
named_tree (Tree-F.Foreach f p g h i) = tree.foreach f.value p.value g.value h.value i.value
named_tree (Tree-F.Define f g) = tree.define (text_of f.value.name) (map text_of f.value.parameters.items) f.value.body g.value
named_tree (Tree-F.Call n fs) = tree.call (name_of n) (tree.trees_of fs.items)
named_tree (Tree-F.PreludeCall n fs) = tree.prelude_call (name_of n) (tree.trees_of fs.items)
named_tree (Tree-F.Update m fs) = tree.prelude_call (name_of m.name) (tree.trees_of fs.value)

abbrev pub named : Tree → tree.Tree
named = fold-Tree tree.Part tree.Pattern tree.Tree named_member named_pattern named_tree

abbrev pub named_as_pattern : Pattern → tree.Pattern
named_as_pattern = fold-Pattern tree.Part tree.Pattern tree.Tree named_member named_pattern named_tree

abbrev pub named_as_part : Member → tree.Part
named_as_part = fold-Member tree.Part tree.Pattern tree.Tree named_member named_pattern named_tree

-- an entry of an object, and a piece of a string, with the definition's trees in them
abbrev pub named_entry : Entry Tree → tree.Entry
named_entry (entry.Named key value) = tree.named (key_of key) (named value)
named_entry (entry.Computed key value) = tree.computed (named key) (named value)
named_entry (entry.Own key) = tree.own (named key)

abbrev pub named_piece : Piece Tree → Piece tree.Tree
named_piece p = record { before = p.before; tree = named p.tree }
