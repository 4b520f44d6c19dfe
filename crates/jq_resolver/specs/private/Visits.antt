-- A bound on the number of parts that the walk over a tree visits.
use Rattle.std.specs.Prelude.{ℕ, suc, ◌+◌}
use Rattle.jq_tree.specs.BoundTree.{BoundTree, BoundTrees, BoundPieces, BoundEntry, BoundEntries, BoundPattern, BoundPatterns, BoundPart, BoundParts}
use Rattle.jq_tree.specs.BoundTree as bound

abbrev mutual
  pub tree_visits : BoundTree → ℕ
  tree_visits bound.identity = 1
  tree_visits bound.empty = 1
  tree_visits (bound.literal v) = 1
  tree_visits (bound.text f b ps) = suc (suc (pieces_visits ps))
  tree_visits (bound.format f b) = 2
  tree_visits (bound.variable n b) = 2
  tree_visits (bound.field t n mark) = suc (tree_visits t)
  tree_visits (bound.index t key mark) = suc (tree_visits t + tree_visits key)
  tree_visits (bound.slice t from to mark) = suc ((tree_visits t + tree_visits from) + tree_visits to)
  tree_visits (bound.iterate t mark) = suc (tree_visits t)
  tree_visits (bound.pipe f g) = suc (tree_visits f + tree_visits g)
  tree_visits (bound.comma f g) = suc (tree_visits f + tree_visits g)
  tree_visits (bound.binary op f g) = suc (tree_visits f + tree_visits g)
  tree_visits (bound.conjunction f g) = suc (tree_visits f + tree_visits g)
  tree_visits (bound.disjunction f g) = suc (tree_visits f + tree_visits g)
  tree_visits (bound.alternative f g) = suc (tree_visits f + tree_visits g)
  tree_visits (bound.negation f) = suc (tree_visits f)
  tree_visits (bound.array f) = suc (tree_visits f)
  tree_visits (bound.object es) = suc (entries_visits es)
  tree_visits (bound.choice f g h) = suc ((tree_visits f + tree_visits g) + tree_visits h)
  tree_visits (bound.try_catch f g) = suc (tree_visits f + tree_visits g)
  tree_visits (bound.label n f) = suc (tree_visits f)
  tree_visits (bound.break n b) = 2
  tree_visits (bound.bind_as f p g) = suc ((tree_visits f + pattern_visits p) + tree_visits g)
  tree_visits (bound.reduce f p g h) = suc (((tree_visits f + pattern_visits p) + tree_visits g) + tree_visits h)
  tree_visits (bound.foreach f p g h i) = suc ((((tree_visits f + pattern_visits p) + tree_visits g) + tree_visits h) + tree_visits i)
  tree_visits (bound.define n ps f g) = suc (tree_visits f + tree_visits g)
  tree_visits (bound.call n b ts) = suc (suc (trees_visits ts))
  tree_visits (bound.prelude_call n b ts) = suc (suc (trees_visits ts))

  pub trees_visits : BoundTrees → ℕ
  trees_visits bound.no_trees = 1
  trees_visits (bound.more_trees t ts) = suc (tree_visits t + trees_visits ts)

  pub pieces_visits : BoundPieces → ℕ
  pieces_visits (bound.last_piece cs) = 1
  pieces_visits (bound.more_pieces cs t ps) = suc (tree_visits t + pieces_visits ps)

  pub entry_visits : BoundEntry → ℕ
  entry_visits (bound.named key value) = tree_visits value
  entry_visits (bound.computed key value) = tree_visits key + tree_visits value
  entry_visits (bound.own key) = tree_visits key

  pub entries_visits : BoundEntries → ℕ
  entries_visits bound.no_entries = 1
  entries_visits (bound.more_entries e es) = suc (entry_visits e + entries_visits es)

  pub pattern_visits : BoundPattern → ℕ
  pattern_visits (bound.whole n) = 1
  pattern_visits (bound.items ps) = suc (patterns_visits ps)
  pattern_visits (bound.members ps) = suc (parts_visits ps)

  pub patterns_visits : BoundPatterns → ℕ
  patterns_visits bound.no_patterns = 1
  patterns_visits (bound.more_patterns p ps) = suc (pattern_visits p + patterns_visits ps)

  pub part_visits : BoundPart → ℕ
  part_visits (bound.keyed key p) = tree_visits key + pattern_visits p
  part_visits (bound.keyed_variable n p) = pattern_visits p

  pub parts_visits : BoundParts → ℕ
  parts_visits bound.no_parts = 1
  parts_visits (bound.more_parts p ps) = suc (part_visits p + parts_visits ps)
