-- Without its binders, a bound tree is the tree again.
use Rattle.std.proofs.Common.{◌≡◌, ◌∷◌, length, refl}
use Rattle.jq_tree.specs.Tree.{Tree, Trees, no_trees, more_trees, Pieces, last_piece, more_pieces, Entry, Entries, no_entries, more_entries, Pattern, whole, Patterns, no_patterns, more_patterns, Part, Parts, no_parts, more_parts}
use Rattle.jq_tree.specs.Tree as tree
use Rattle.jq_tree.specs.Names.{to_function, to_variable, to_label, Scope, with_parameters, with_pattern, with_part}
use Rattle.jq_tree.specs.Binders.{bound_in, trees_in, pieces_in, entry_in, entries_in, pattern_in, patterns_in, part_in, parts_in}
use Rattle.jq_tree.specs.laws.Binders.{tree_of, trees_of_bound, pieces_of, entry_of, entries_of_bound, pattern_of, patterns_of_bound, part_of, parts_of_bound}

mutual
  pub kept_bound_in : (s : Scope) (x : Tree) → tree_of (bound_in s x) ≡ x
  kept_bound_in s tree.identity = refl
  kept_bound_in s tree.empty = refl
  kept_bound_in s (tree.literal v) = refl
  kept_bound_in s (tree.text f ps) = let h0 = kept_pieces_in s ps in cc h0
  kept_bound_in s (tree.format f) = refl
  kept_bound_in s (tree.variable n) = refl
  kept_bound_in s (tree.field t n mark) = let h0 = kept_bound_in s t in cc h0
  kept_bound_in s (tree.index t key mark) = let h0 = kept_bound_in s t in let h1 = kept_bound_in s key in cc (h0, h1)
  kept_bound_in s (tree.slice t from to mark) = let h0 = kept_bound_in s t in let h1 = kept_bound_in s from in let h2 = kept_bound_in s to in cc (h0, h1, h2)
  kept_bound_in s (tree.iterate t mark) = let h0 = kept_bound_in s t in cc h0
  kept_bound_in s (tree.pipe f g) = let h0 = kept_bound_in s f in let h1 = kept_bound_in s g in cc (h0, h1)
  kept_bound_in s (tree.comma f g) = let h0 = kept_bound_in s f in let h1 = kept_bound_in s g in cc (h0, h1)
  kept_bound_in s (tree.binary op f g) = let h0 = kept_bound_in s f in let h1 = kept_bound_in s g in cc (h0, h1)
  kept_bound_in s (tree.conjunction f g) = let h0 = kept_bound_in s f in let h1 = kept_bound_in s g in cc (h0, h1)
  kept_bound_in s (tree.disjunction f g) = let h0 = kept_bound_in s f in let h1 = kept_bound_in s g in cc (h0, h1)
  kept_bound_in s (tree.alternative f g) = let h0 = kept_bound_in s f in let h1 = kept_bound_in s g in cc (h0, h1)
  kept_bound_in s (tree.negation f) = let h0 = kept_bound_in s f in cc h0
  kept_bound_in s (tree.array f) = let h0 = kept_bound_in s f in cc h0
  kept_bound_in s (tree.object es) = let h0 = kept_entries_in s es in cc h0
  kept_bound_in s (tree.choice f g h) = let h0 = kept_bound_in s f in let h1 = kept_bound_in s g in let h2 = kept_bound_in s h in cc (h0, h1, h2)
  kept_bound_in s (tree.try_catch f g) = let h0 = kept_bound_in s f in let h1 = kept_bound_in s g in cc (h0, h1)
  kept_bound_in s (tree.label n f) = let h0 = kept_bound_in (to_label n ∷ s) f in cc h0
  kept_bound_in s (tree.break n) = refl
  kept_bound_in s (tree.bind_as f p g) = let h0 = kept_bound_in s f in let h1 = kept_pattern_in s p in let h2 = kept_bound_in (with_pattern p s) g in cc (h0, h1, h2)
  kept_bound_in s (tree.reduce f p g h) = let h0 = kept_bound_in s f in let h1 = kept_pattern_in s p in let h2 = kept_bound_in s g in let h3 = kept_bound_in (with_pattern p s) h in cc (h0, h1, h2, h3)
  kept_bound_in s (tree.foreach f p g h i) = let h0 = kept_bound_in s f in let h1 = kept_pattern_in s p in let h2 = kept_bound_in s g in let h3 = kept_bound_in (with_pattern p s) h in let h4 = kept_bound_in (with_pattern p s) i in cc (h0, h1, h2, h3, h4)
  kept_bound_in s (tree.define n ps f g) = let h0 = kept_bound_in (with_parameters ps (to_function n (length ps) ∷ s)) f in let h1 = kept_bound_in (to_function n (length ps) ∷ s) g in cc (h0, h1)
  kept_bound_in s (tree.call n ts) = let h0 = kept_trees_in s ts in cc h0
  kept_bound_in s (tree.prelude_call n ts) = let h0 = kept_trees_in s ts in cc h0

  kept_trees_in : (s : Scope) (x : Trees) → trees_of_bound (trees_in s x) ≡ x
  kept_trees_in s no_trees = refl
  kept_trees_in s (more_trees t ts) = let h0 = kept_bound_in s t in let h1 = kept_trees_in s ts in cc (h0, h1)

  kept_pieces_in : (s : Scope) (x : Pieces) → pieces_of (pieces_in s x) ≡ x
  kept_pieces_in s (last_piece cs) = refl
  kept_pieces_in s (more_pieces cs t ps) = let h0 = kept_bound_in s t in let h1 = kept_pieces_in s ps in cc (h0, h1)

  kept_entry_in : (s : Scope) (x : Entry) → entry_of (entry_in s x) ≡ x
  kept_entry_in s (tree.named key value) = let h0 = kept_bound_in s value in cc h0
  kept_entry_in s (tree.computed key value) = let h0 = kept_bound_in s key in let h1 = kept_bound_in s value in cc (h0, h1)
  kept_entry_in s (tree.own key) = let h0 = kept_bound_in s key in cc h0

  kept_entries_in : (s : Scope) (x : Entries) → entries_of_bound (entries_in s x) ≡ x
  kept_entries_in s no_entries = refl
  kept_entries_in s (more_entries e es) = let h0 = kept_entry_in s e in let h1 = kept_entries_in s es in cc (h0, h1)

  kept_pattern_in : (s : Scope) (x : Pattern) → pattern_of (pattern_in s x) ≡ x
  kept_pattern_in s (whole n) = refl
  kept_pattern_in s (tree.items ps) = let h0 = kept_patterns_in s ps in cc h0
  kept_pattern_in s (tree.members ps) = let h0 = kept_parts_in s ps in cc h0

  kept_patterns_in : (s : Scope) (x : Patterns) → patterns_of_bound (patterns_in s x) ≡ x
  kept_patterns_in s no_patterns = refl
  kept_patterns_in s (more_patterns p ps) = let h0 = kept_pattern_in s p in let h1 = kept_patterns_in (with_pattern p s) ps in cc (h0, h1)

  kept_part_in : (s : Scope) (x : Part) → part_of (part_in s x) ≡ x
  kept_part_in s (tree.keyed key p) = let h0 = kept_bound_in s key in let h1 = kept_pattern_in s p in cc (h0, h1)
  kept_part_in s (tree.keyed_variable n p) = let h0 = kept_pattern_in (to_variable n ∷ s) p in cc h0

  kept_parts_in : (s : Scope) (x : Parts) → parts_of_bound (parts_in s x) ≡ x
  kept_parts_in s no_parts = refl
  kept_parts_in s (more_parts p ps) = let h0 = kept_part_in s p in let h1 = kept_parts_in (with_part p s) ps in cc (h0, h1)
