-- The walk over a filter that finds a call of a function that halts, where the filter does not bind the name around the call.
-- (The definition compares the binders of all names; this is a function.)
use Rattle.std.specs.Prelude.{Bool, false, ◌||◌, length}
use Rattle.jq_tree.specs.Tree.{Tree, Trees, no_trees, more_trees, trees_count, Pieces, last_piece, more_pieces, Entry, Entries, no_entries, more_entries, Pattern, whole, Patterns, no_patterns, more_patterns, Part, Parts, no_parts, more_parts}
use Rattle.jq_tree.specs.Tree as tree
use Rattle.jq_tree.specs.Names.{to_function}
use Rattle.jq_inputs.specs.declared.hidden.Hidden.{Hidden}
use Rattle.jq_inputs.specs.private.Hidden.{nothing_hidden, hiding, hiding_parameters, is_halt}

abbrev mutual
  pub halts_in : Hidden → Tree → Bool
  halts_in h tree.identity = false
  halts_in h tree.empty = false
  halts_in h (tree.literal v) = false
  halts_in h (tree.text f ps) = halts_in_pieces h ps
  halts_in h (tree.format f) = false
  halts_in h (tree.variable n) = false
  halts_in h (tree.field f n mark) = halts_in h f
  halts_in h (tree.index f g mark) = halts_in h f || halts_in h g
  halts_in h (tree.slice f from to mark) = (halts_in h f || halts_in h from) || halts_in h to
  halts_in h (tree.iterate f mark) = halts_in h f
  halts_in h (tree.pipe f g) = halts_in h f || halts_in h g
  halts_in h (tree.comma f g) = halts_in h f || halts_in h g
  halts_in h (tree.binary op f g) = halts_in h f || halts_in h g
  halts_in h (tree.conjunction f g) = halts_in h f || halts_in h g
  halts_in h (tree.disjunction f g) = halts_in h f || halts_in h g
  halts_in h (tree.alternative f g) = halts_in h f || halts_in h g
  halts_in h (tree.negation f) = halts_in h f
  halts_in h (tree.array f) = halts_in h f
  halts_in h (tree.object es) = halts_in_entries h es
  halts_in h (tree.choice f g k) = (halts_in h f || halts_in h g) || halts_in h k
  halts_in h (tree.try_catch f g) = halts_in h f || halts_in h g
  halts_in h (tree.label n f) = halts_in h f
  halts_in h (tree.break n) = false
  halts_in h (tree.bind_as f p g) = (halts_in h f || halts_in_pattern h p) || halts_in h g
  halts_in h (tree.reduce f p g k) = ((halts_in h f || halts_in_pattern h p) || halts_in h g) || halts_in h k
  halts_in h (tree.foreach f p g k i) = (((halts_in h f || halts_in_pattern h p) || halts_in h g) || halts_in h k) || halts_in h i
  halts_in h (tree.define n ps f g) =
      halts_in (hiding_parameters ps (hiding (to_function n (length ps)) h)) f || halts_in (hiding (to_function n (length ps)) h) g
  halts_in h (tree.call n ts) = is_halt h (to_function n (trees_count ts)) || halts_in_trees h ts
  halts_in h (tree.prelude_call n ts) = is_halt nothing_hidden (to_function n (trees_count ts)) || halts_in_trees h ts

  pub halts_in_trees : Hidden → Trees → Bool
  halts_in_trees h no_trees = false
  halts_in_trees h (more_trees t ts) = halts_in h t || halts_in_trees h ts

  pub halts_in_pieces : Hidden → Pieces → Bool
  halts_in_pieces h (last_piece cs) = false
  halts_in_pieces h (more_pieces cs t ps) = halts_in h t || halts_in_pieces h ps

  pub halts_in_entry : Hidden → Entry → Bool
  halts_in_entry h (tree.named key value) = halts_in h value
  halts_in_entry h (tree.computed key value) = halts_in h key || halts_in h value
  halts_in_entry h (tree.own key) = halts_in h key

  pub halts_in_entries : Hidden → Entries → Bool
  halts_in_entries h no_entries = false
  halts_in_entries h (more_entries e es) = halts_in_entry h e || halts_in_entries h es

  pub halts_in_pattern : Hidden → Pattern → Bool
  halts_in_pattern h (whole n) = false
  halts_in_pattern h (tree.items ps) = halts_in_patterns h ps
  halts_in_pattern h (tree.members ps) = halts_in_parts h ps

  pub halts_in_patterns : Hidden → Patterns → Bool
  halts_in_patterns h no_patterns = false
  halts_in_patterns h (more_patterns p ps) = halts_in_pattern h p || halts_in_patterns h ps

  pub halts_in_part : Hidden → Part → Bool
  halts_in_part h (tree.keyed key p) = halts_in h key || halts_in_pattern h p
  halts_in_part h (tree.keyed_variable n p) = halts_in_pattern h p

  pub halts_in_parts : Hidden → Parts → Bool
  halts_in_parts h no_parts = false
  halts_in_parts h (more_parts p ps) = halts_in_part h p || halts_in_parts h ps
