-- What a filter means: the run of its tree on an item (manual of jq 1.7; each form names its section in `jq_tree`).
use Rattle.std.specs.Prelude.{ℕ, zero, suc, pos, List, [], ◌∷◌}
use Rattle.jv_data.specs.Value.{Value, number, string, object, Members, no_members}
use Rattle.jq_tree.specs.Tree.{Name, Tree, Trees, no_trees, more_trees, trees_count, Pieces, Entries, Pattern, Patterns, Parts}
use Rattle.jq_tree.specs.Tree as tree
use Rattle.jq_meaning.specs.Runs.{Item, plain, value_in, as_value, Run, Stopped, deep, ended, none, one, then_run, bind, without_path, gathered, catch, alternative, labelled}
use Rattle.jq_meaning.specs.Env.{Env, outermost, bound, value_of, function, label_of, Callee, found_function, found_closure, no_callee, find_value, find_level, find_callee, find_in_prelude, find_inputs, with_arguments, with_variables}
use Rattle.jq_meaning.specs.Folds.{reduced, each_of}
use Rattle.jq_meaning.specs.Steps.{each_part}
use Rattle.jq_meaning.specs.Builtins.{builtin_named, builtin_run}
use Rattle.jq_meaning.specs.Continuations.{value_of_literal, on_target, on_key, on_start, on_right, on_conjunct, on_disjunct, negated, on_test, on_error, broken, text_item, put_between, format_of, on_back, on_entry, on_entry_key, part_at, on_own_key, on_part, on_part_key, on_named_part, on_source, in_bindings, on_state}

-- A tree's run in its bindings, at a label level, on an item.
abbrev pub Means : Type 0
Means = Tree → Env → ℕ → Item → Run Item

-- ---- Calls

-- A body is run by `deeper`, whose call depth is smaller by one.
abbrev pub called : Means → Callee → Trees → Env → ℕ → Item → Run Item → Run Item
called deeper (found_function parameters body own) ts caller k x otherwise = deeper body (with_arguments parameters ts caller own) k x
called deeper (found_closure body own) ts caller k x otherwise = deeper body own k x
called deeper no_callee ts caller k x otherwise = otherwise

-- ---- The meaning, where `deeper` runs the bodies of called functions

abbrev mutual
  pub meaning_with : Means → Means
  meaning_with deeper tree.identity e k x = one x
  meaning_with deeper tree.empty e k x = none
  meaning_with deeper (tree.literal l) e k x = without_path x (one (plain (value_of_literal l)))
  meaning_with deeper (tree.text format ps) e k x =
      without_path x (bind (pieces_with deeper ps format e k (as_value x)) text_item)
  meaning_with deeper (tree.format n) e k x = without_path x (bind (put_between [] [] (format_of n (value_in x))) text_item)
  meaning_with deeper (tree.variable n) e k x = without_path x (one (plain (find_value n e)))
  meaning_with deeper (tree.field t key guarded) e k x = bind (meaning_with deeper t e k x) (on_target guarded (string key))
  meaning_with deeper (tree.index t key guarded) e k x =
      bind (meaning_with deeper key e k (as_value x)) (on_key guarded (meaning_with deeper t e k x))
  meaning_with deeper (tree.slice t from to guarded) e k x =
      bind (meaning_with deeper from e k (as_value x))
      (on_start guarded (meaning_with deeper to e k (as_value x)) (meaning_with deeper t e k x))
  meaning_with deeper (tree.iterate t guarded) e k x = bind (meaning_with deeper t e k x) (each_part guarded)
  meaning_with deeper (tree.pipe f g) e k x = bind (meaning_with deeper f e k x) (meaning_with deeper g e k)
  meaning_with deeper (tree.comma f g) e k x = then_run (meaning_with deeper f e k x) (meaning_with deeper g e k x)
  meaning_with deeper (tree.binary op f g) e k x =
      without_path x (bind (meaning_with deeper g e k (as_value x)) (on_right op (meaning_with deeper f e k (as_value x))))
  meaning_with deeper (tree.conjunction f g) e k x =
      without_path x (bind (meaning_with deeper f e k (as_value x)) (on_conjunct (meaning_with deeper g e k) (as_value x)))
  meaning_with deeper (tree.disjunction f g) e k x =
      without_path x (bind (meaning_with deeper f e k (as_value x)) (on_disjunct (meaning_with deeper g e k) (as_value x)))
  meaning_with deeper (tree.alternative f g) e k x = alternative (meaning_with deeper f e k x) (meaning_with deeper g e k) x
  meaning_with deeper (tree.negation f) e k x = without_path x (bind (meaning_with deeper f e k (as_value x)) negated)
  meaning_with deeper (tree.array f) e k x = without_path x (gathered (meaning_with deeper f e k (as_value x)))
  meaning_with deeper (tree.object es) e k x = without_path x (entries_with deeper es e k (value_in x) no_members)
  meaning_with deeper (tree.choice c f g) e k x =
      bind (meaning_with deeper c e k (as_value x)) (on_test (meaning_with deeper f e k) (meaning_with deeper g e k) x)
  meaning_with deeper (tree.try_catch f g) e k x = catch (meaning_with deeper f e k x) (on_error (meaning_with deeper g e k) x)
  meaning_with deeper (tree.label n f) e k x = labelled k (meaning_with deeper f (bound (label_of n k) e) (suc k) x)
  meaning_with deeper (tree.break n) e k x = broken (find_level n e)
  meaning_with deeper (tree.bind_as t p f) e k x =
      bind (bind (meaning_with deeper t e k (as_value x)) (on_source (bindings_with deeper p k) e))
      (in_bindings (meaning_with deeper f) k x)
  meaning_with deeper (tree.reduce t p start update) e k x =
      let sources = bind (meaning_with deeper t e k (as_value x)) (on_source (bindings_with deeper p k) e) in
      bind (meaning_with deeper start e k x) (reduced (on_state (meaning_with deeper update) k) sources.items sources.ending)
  meaning_with deeper (tree.foreach t p start update extract) e k x =
      let sources = bind (meaning_with deeper t e k (as_value x)) (on_source (bindings_with deeper p k) e) in
      bind (meaning_with deeper start e k x)
      (each_of (on_state (meaning_with deeper update) k) (on_state (meaning_with deeper extract) k) sources.items sources.ending)
  meaning_with deeper (tree.define n parameters body rest) e k x = meaning_with deeper rest (bound (function n parameters body) e) k x
  meaning_with deeper (tree.call n ts) e k x =
      called deeper (find_callee n (trees_count ts) e) ts e k x
      (builtin_run (builtin_named n (trees_count ts)) (arguments_with deeper ts e k) (find_inputs e) x)
  meaning_with deeper (tree.prelude_call n ts) e k x = called deeper (find_in_prelude n (trees_count ts) e) ts e k x none

  -- the runs of the arguments, each on the same item
  pub arguments_with : Means → Trees → Env → ℕ → Item → List (Run Item)
  arguments_with deeper no_trees e k x = []
  arguments_with deeper (more_trees t ts) e k x = meaning_with deeper t e k x ∷ arguments_with deeper ts e k x

  -- the last filter of the string is the outer loop
  pub pieces_with : Means → Pieces → Name → Env → ℕ → Item → Run (List ℕ)
  pieces_with deeper (tree.last_piece s) format e k x = one s
  pieces_with deeper (tree.more_pieces s f ps) format e k x =
      bind (pieces_with deeper ps format e k x) (on_back format s (meaning_with deeper f e k x))

  -- the earlier entry is the outer loop; within one entry the key is the outer loop and the value the inner one
  pub entries_with : Means → Entries → Env → ℕ → Value → Members → Run Item
  entries_with deeper tree.no_entries e k v made = one (plain (object made))
  entries_with deeper (tree.more_entries (tree.named key f) es) e k v made =
      bind (meaning_with deeper f e k (plain v)) (on_entry (entries_with deeper es e k v) made key)
  entries_with deeper (tree.more_entries (tree.computed key f) es) e k v made =
      bind (meaning_with deeper key e k (plain v)) (on_entry_key (meaning_with deeper f e k (plain v)) (entries_with deeper es e k v) made)
  entries_with deeper (tree.more_entries (tree.own key) es) e k v made =
      bind (meaning_with deeper key e k (plain v)) (on_own_key v (entries_with deeper es e k v) made)

  -- the lists of bindings that a pattern makes from a value
  pub bindings_with : Means → Pattern → ℕ → Env → Value → Run Env
  bindings_with deeper (tree.whole n) k e v = one (bound (value_of n v) e)
  bindings_with deeper (tree.items ps) k e v = items_with deeper ps 0 k v e
  bindings_with deeper (tree.members ps) k e v = members_with deeper ps k v e

  pub items_with : Means → Patterns → ℕ → ℕ → Value → Env → Run Env
  items_with deeper tree.no_patterns i k v e = one e
  items_with deeper (tree.more_patterns p ps) i k v e =
      bind (part_at v (number (pos i))) (on_part (bindings_with deeper p k) e (items_with deeper ps (suc i) k v))

  pub members_with : Means → Parts → ℕ → Value → Env → Run Env
  members_with deeper tree.no_parts k v e = one e
  members_with deeper (tree.more_parts (tree.keyed key p) ps) k v e =
      bind (meaning_with deeper key e k (plain v)) (on_part_key v (bindings_with deeper p k) e (members_with deeper ps k v))
  members_with deeper (tree.more_parts (tree.keyed_variable n p) ps) k v e =
      bind (part_at v (string n)) (on_named_part n (bindings_with deeper p k) e (members_with deeper ps k v))

-- the runs of called bodies at a call depth: too deep at 0, else the meaning at the depth smaller by one
abbrev pub below : ℕ → Means
below zero = λ t e k x. ended (Stopped deep)
below (suc depth) = meaning_with (below depth)

-- The meaning of a tree where calls may be nested to a depth.
abbrev pub meaning : ℕ → Means
meaning depth = meaning_with (below depth)

-- The run of a filter on an input; `t` is the filter's tree inside the definitions of the prelude. The
-- options' variables are bound outside of both.
abbrev pub run_of : (depth : ℕ) → List (Name × Value) → Run Value → (t : Tree) → (input : Value) → Run Item
run_of depth variables inputs t input = meaning depth t (with_variables variables (outermost inputs)) 0 (plain input)
