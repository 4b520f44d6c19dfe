-- The result of one walk over a filter: how often it calls `inputs`, and whether `inputs` is evaluated at most once if the
-- filter is. (The definitions in `Inputs` are relations over the scope; these are functions.)
use Rattle.std.specs.Prelude.{Bool, false, ◌&&◌, ◌||◌, length, if◌then◌else◌}
use Rattle.jq_tree.specs.Tree.{Name, Tree, Trees, no_trees, more_trees, Pieces, last_piece, more_pieces, Entry, Entries, no_entries, more_entries, Pattern, whole, Patterns, no_patterns, more_patterns, Part, Parts, no_parts, more_parts}
use Rattle.jq_tree.specs.Tree as tree
use Rattle.jq_tree.specs.Names.{to_function}
use Rattle.jq_tree.specs.Inputs.{at_most_one, at_most_one_of, at_most_one_each}
use Rattle.jq_inputs.specs.declared.hidden.Hidden.{Hidden}
use Rattle.jq_inputs.specs.declared.surveys.Count.{Count}
use Rattle.jq_inputs.specs.declared.surveys.Count.TheVariants.{Zero, One}
use Rattle.jq_inputs.specs.private.Counts.{plus, is_zero}
use Rattle.jq_inputs.specs.private.Hidden.{hiding, hiding_parameters, is_inputs, is_first, is_any, is_limit}

abbrev mutual
  pub count_in : Hidden → Tree → Count
  count_in h tree.identity = Zero
  count_in h tree.empty = Zero
  count_in h (tree.literal v) = Zero
  count_in h (tree.text f ps) = count_pieces h ps
  count_in h (tree.format f) = Zero
  count_in h (tree.variable n) = Zero
  count_in h (tree.field f n mark) = count_in h f
  count_in h (tree.index f g mark) = plus (count_in h f) (count_in h g)
  count_in h (tree.slice f from to mark) = plus (plus (count_in h f) (count_in h from)) (count_in h to)
  count_in h (tree.iterate f mark) = count_in h f
  count_in h (tree.pipe f g) = plus (count_in h f) (count_in h g)
  count_in h (tree.comma f g) = plus (count_in h f) (count_in h g)
  count_in h (tree.binary op f g) = plus (count_in h f) (count_in h g)
  count_in h (tree.conjunction f g) = plus (count_in h f) (count_in h g)
  count_in h (tree.disjunction f g) = plus (count_in h f) (count_in h g)
  count_in h (tree.alternative f g) = plus (count_in h f) (count_in h g)
  count_in h (tree.negation f) = count_in h f
  count_in h (tree.array f) = count_in h f
  count_in h (tree.object es) = count_entries h es
  count_in h (tree.choice f g k) = plus (plus (count_in h f) (count_in h g)) (count_in h k)
  count_in h (tree.try_catch f g) = plus (count_in h f) (count_in h g)
  count_in h (tree.label n f) = count_in h f
  count_in h (tree.break n) = Zero
  count_in h (tree.bind_as f p g) = plus (plus (count_in h f) (count_in h g)) (count_pattern h p)
  count_in h (tree.reduce f p g k) = plus (plus (plus (count_in h f) (count_in h g)) (count_pattern h p)) (count_in h k)
  count_in h (tree.foreach f p g k i) = plus (plus (plus (plus (count_in h f) (count_in h g)) (count_pattern h p)) (count_in h k)) (count_in h i)
  count_in h (tree.define n ps f g) =
      plus (count_in (hiding (to_function n (length ps)) h) g) (count_in (hiding_parameters ps (hiding (to_function n (length ps)) h)) f)
  count_in h (tree.call n ts) = count_call h n ts
  count_in h (tree.prelude_call n ts) = count_trees h ts

  pub count_call : Hidden → Name → Trees → Count
  count_call h n no_trees = if is_inputs h n then One else Zero
  count_call h n (more_trees t ts) = plus (count_in h t) (count_trees h ts)

  pub count_trees : Hidden → Trees → Count
  count_trees h no_trees = Zero
  count_trees h (more_trees t ts) = plus (count_in h t) (count_trees h ts)

  pub count_pieces : Hidden → Pieces → Count
  count_pieces h (last_piece cs) = Zero
  count_pieces h (more_pieces cs t ps) = plus (count_in h t) (count_pieces h ps)

  pub count_entry : Hidden → Entry → Count
  count_entry h (tree.named key value) = count_in h value
  count_entry h (tree.computed key value) = plus (count_in h key) (count_in h value)
  count_entry h (tree.own key) = count_in h key

  pub count_entries : Hidden → Entries → Count
  count_entries h no_entries = Zero
  count_entries h (more_entries e es) = plus (count_entry h e) (count_entries h es)

  pub count_pattern : Hidden → Pattern → Count
  count_pattern h (whole n) = Zero
  count_pattern h (tree.items ps) = count_patterns h ps
  count_pattern h (tree.members ps) = count_parts h ps

  pub count_patterns : Hidden → Patterns → Count
  count_patterns h no_patterns = Zero
  count_patterns h (more_patterns p ps) = plus (count_pattern h p) (count_patterns h ps)

  pub count_part : Hidden → Part → Count
  count_part h (tree.keyed key p) = plus (count_in h key) (count_pattern h p)
  count_part h (tree.keyed_variable n p) = count_pattern h p

  pub count_parts : Hidden → Parts → Count
  count_parts h no_parts = Zero
  count_parts h (more_parts p ps) = plus (count_part h p) (count_parts h ps)

abbrev pub single_in : Hidden → Tree → Bool
single_in h t = at_most_one t && is_zero (count_in h t)

abbrev pub single_entry : Hidden → Entry → Bool
single_entry h e = at_most_one_of e && is_zero (count_entry h e)

abbrev pub single_entries : Hidden → Entries → Bool
single_entries h es = at_most_one_each es && is_zero (count_entries h es)

abbrev mutual
  pub once_in : Hidden → Tree → Bool
  once_in h (tree.field f n mark) = once_in h f
  once_in h (tree.index f g mark) = once_in h f && single_in h g
  once_in h (tree.iterate f mark) = once_in h f
  once_in h (tree.pipe f g) = once_in h f
  once_in h (tree.comma f g) = once_in h f || once_in h g
  once_in h (tree.binary op f g) = once_in h g || (once_in h f && single_in h g)
  once_in h (tree.alternative f g) = once_in h f
  once_in h (tree.array f) = once_in h f
  once_in h (tree.object es) = once_entries h es
  once_in h (tree.choice f g k) = once_in h f
  once_in h (tree.try_catch f g) = once_in h f
  once_in h (tree.label n f) = once_in h f
  once_in h (tree.bind_as f p g) = once_in h f
  once_in h (tree.reduce f p g k) = once_in h f && single_in h g
  once_in h (tree.foreach f p g k i) = once_in h f && single_in h g
  once_in h (tree.define n ps f g) = once_in (hiding (to_function n (length ps)) h) g
  once_in h (tree.call n ts) = once_call h n ts
  once_in h t = false

  pub once_call : Hidden → Name → Trees → Bool
  once_call h n no_trees = is_inputs h n
  once_call h n (more_trees f no_trees) = is_first h n && once_in h f
  once_call h n (more_trees f (more_trees g no_trees)) = (is_any h n && once_in h f) || (is_limit h n && (single_in h f && once_in h g))
  once_call h n (more_trees f (more_trees g (more_trees k ts))) = false

  pub once_entry : Hidden → Entry → Bool
  once_entry h (tree.named key value) = once_in h value
  once_entry h (tree.computed key value) = false
  once_entry h (tree.own key) = false

  pub once_entries : Hidden → Entries → Bool
  once_entries h no_entries = false
  once_entries h (more_entries e es) = (once_entry h e && single_entries h es) || (single_entry h e && once_entries h es)

-- ---- filters that fold their inputs

abbrev pub is_inputs_call : Hidden → Tree → Bool
is_inputs_call h (tree.call n no_trees) = is_inputs h n
is_inputs_call h t = false

abbrev pub folds : Hidden → Tree → Bool
folds h (tree.reduce f p start update) = is_inputs_call h f && single_in h start
folds h (tree.foreach f p start update extract) = is_inputs_call h f && single_in h start
folds h t = false

abbrev pub has_fold_shape : Hidden → Tree → Bool
has_fold_shape h (tree.pipe f g) = folds h f
has_fold_shape h (tree.define n ps f g) = has_fold_shape (hiding (to_function n (length ps)) h) g
has_fold_shape h t = folds h t
