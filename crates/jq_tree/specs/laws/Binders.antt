-- A law of the binding of names, not used to define it.
use Rattle.std.specs.Prelude.{◌≡◌}
use Rattle.jq_tree.specs.Tree.{Tree, Trees, no_trees, more_trees, Pieces, last_piece, more_pieces, Entry, Entries, no_entries, more_entries, Pattern, whole, Patterns, no_patterns, more_patterns, Part, Parts, no_parts, more_parts}
use Rattle.jq_tree.specs.Tree as tree
use Rattle.jq_tree.specs.BoundTree.{BoundTree, BoundTrees, BoundPieces, BoundEntry, BoundEntries, BoundPattern, BoundPatterns, BoundPart, BoundParts}
use Rattle.jq_tree.specs.BoundTree as bound
use Rattle.jq_tree.specs.Names.{Scope}
use Rattle.jq_tree.specs.Binders.{bound_in}

-- ---- the tree without its binders

abbrev mutual
  pub tree_of : BoundTree → Tree
  tree_of bound.identity = tree.identity
  tree_of bound.empty = tree.empty
  tree_of (bound.literal v) = tree.literal v
  tree_of (bound.text f b ps) = tree.text f (pieces_of ps)
  tree_of (bound.format f b) = tree.format f
  tree_of (bound.variable n b) = tree.variable n
  tree_of (bound.field t n mark) = tree.field (tree_of t) n mark
  tree_of (bound.index t key mark) = tree.index (tree_of t) (tree_of key) mark
  tree_of (bound.slice t from to mark) = tree.slice (tree_of t) (tree_of from) (tree_of to) mark
  tree_of (bound.iterate t mark) = tree.iterate (tree_of t) mark
  tree_of (bound.pipe f g) = tree.pipe (tree_of f) (tree_of g)
  tree_of (bound.comma f g) = tree.comma (tree_of f) (tree_of g)
  tree_of (bound.binary op f g) = tree.binary op (tree_of f) (tree_of g)
  tree_of (bound.conjunction f g) = tree.conjunction (tree_of f) (tree_of g)
  tree_of (bound.disjunction f g) = tree.disjunction (tree_of f) (tree_of g)
  tree_of (bound.alternative f g) = tree.alternative (tree_of f) (tree_of g)
  tree_of (bound.negation f) = tree.negation (tree_of f)
  tree_of (bound.array f) = tree.array (tree_of f)
  tree_of (bound.object es) = tree.object (entries_of_bound es)
  tree_of (bound.choice f g h) = tree.choice (tree_of f) (tree_of g) (tree_of h)
  tree_of (bound.try_catch f g) = tree.try_catch (tree_of f) (tree_of g)
  tree_of (bound.label n f) = tree.label n (tree_of f)
  tree_of (bound.break n b) = tree.break n
  tree_of (bound.bind_as f p g) = tree.bind_as (tree_of f) (pattern_of p) (tree_of g)
  tree_of (bound.reduce f p g h) = tree.reduce (tree_of f) (pattern_of p) (tree_of g) (tree_of h)
  tree_of (bound.foreach f p g h i) = tree.foreach (tree_of f) (pattern_of p) (tree_of g) (tree_of h) (tree_of i)
  tree_of (bound.define n ps f g) = tree.define n ps (tree_of f) (tree_of g)
  tree_of (bound.call n b ts) = tree.call n (trees_of_bound ts)
  tree_of (bound.prelude_call n b ts) = tree.prelude_call n (trees_of_bound ts)

  pub trees_of_bound : BoundTrees → Trees
  trees_of_bound bound.no_trees = tree.no_trees
  trees_of_bound (bound.more_trees t ts) = tree.more_trees (tree_of t) (trees_of_bound ts)

  pub pieces_of : BoundPieces → Pieces
  pieces_of (bound.last_piece cs) = tree.last_piece cs
  pieces_of (bound.more_pieces cs t ps) = tree.more_pieces cs (tree_of t) (pieces_of ps)

  pub entry_of : BoundEntry → Entry
  entry_of (bound.named key value) = tree.named key (tree_of value)
  entry_of (bound.computed key value) = tree.computed (tree_of key) (tree_of value)
  entry_of (bound.own key) = tree.own (tree_of key)

  pub entries_of_bound : BoundEntries → Entries
  entries_of_bound bound.no_entries = tree.no_entries
  entries_of_bound (bound.more_entries e es) = tree.more_entries (entry_of e) (entries_of_bound es)

  pub pattern_of : BoundPattern → Pattern
  pattern_of (bound.whole n) = tree.whole n
  pattern_of (bound.items ps) = tree.items (patterns_of_bound ps)
  pattern_of (bound.members ps) = tree.members (parts_of_bound ps)

  pub patterns_of_bound : BoundPatterns → Patterns
  patterns_of_bound bound.no_patterns = tree.no_patterns
  patterns_of_bound (bound.more_patterns p ps) = tree.more_patterns (pattern_of p) (patterns_of_bound ps)

  pub part_of : BoundPart → Part
  part_of (bound.keyed key p) = tree.keyed (tree_of key) (pattern_of p)
  part_of (bound.keyed_variable n p) = tree.keyed_variable n (pattern_of p)

  pub parts_of_bound : BoundParts → Parts
  parts_of_bound bound.no_parts = tree.no_parts
  parts_of_bound (bound.more_parts p ps) = tree.more_parts (part_of p) (parts_of_bound ps)

-- ---- law

-- Without its binders, the bound tree is the tree again.
abbrev pub BindingKeepsTheTree : Type 0
BindingKeepsTheTree = (scope : Scope) (t : Tree) → tree_of (bound_in scope t) ≡ t
