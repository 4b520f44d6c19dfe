-- Where a filter may call `inputs`: where it is evaluated at most once.
--
-- `inputs` is a call of that name which no definition or parameter of the filter binds. The same holds for `first(f)` and
-- the other functions of the prelude. A tree here is that of the filter alone, without the prelude. Forms that are
-- explained by others are judged in their written-out form: in `.a += inputs` the call is the source of a binding.
use Rattle.std.specs.Prelude.{◌≡◌, ℕ, ◌+◌, List, [], ◌∷◌, Bool, true, false, ◌&&◌, ◌⊎◌, not, nat_eq, bytes_eq, length, codes, if◌then◌else◌}
use Rattle.jq_tree.specs.Tree.{Name, Operator, Tree, Trees, no_trees, more_trees, trees_count, Pieces, last_piece, more_pieces, Entry, Entries, no_entries, more_entries, Pattern, whole, Patterns, no_patterns, more_patterns, Part, Parts, no_parts, more_parts}
use Rattle.jq_tree.specs.Tree as tree
use Rattle.jq_tree.specs.Names.{Scope, to_function, is_bound, with_parameters}

abbrev pub inputs : Name
inputs = codes "inputs"

-- The filter does not bind this function: `own` is what it binds around the call.
abbrev pub IsOuter : Scope → Name → ℕ → Type 0
IsOuter own n arity = is_bound (to_function n arity) own ≡ false

abbrev pub is_inputs : Scope → Name → ℕ → Bool
is_inputs own n arity = bytes_eq n inputs && nat_eq arity 0 && not (is_bound (to_function inputs 0) own)

abbrev mutual
  -- How often `inputs` is called in a tree.
  pub count : Scope → Tree → ℕ
  count own tree.identity = 0
  count own tree.empty = 0
  count own (tree.literal v) = 0
  count own (tree.text f ps) = count_pieces own ps
  count own (tree.format f) = 0
  count own (tree.variable n) = 0
  count own (tree.field t n mark) = count own t
  count own (tree.index t key mark) = count own t + count own key
  count own (tree.slice t from to mark) = count own t + count own from + count own to
  count own (tree.iterate t mark) = count own t
  count own (tree.pipe f g) = count own f + count own g
  count own (tree.comma f g) = count own f + count own g
  count own (tree.binary op f g) = count own f + count own g
  count own (tree.conjunction f g) = count own f + count own g
  count own (tree.disjunction f g) = count own f + count own g
  count own (tree.alternative f g) = count own f + count own g
  count own (tree.negation f) = count own f
  count own (tree.array f) = count own f
  count own (tree.object es) = count_entries own es
  count own (tree.choice f g h) = count own f + count own g + count own h
  count own (tree.try_catch f g) = count own f + count own g
  count own (tree.label n f) = count own f
  count own (tree.break n) = 0
  count own (tree.bind_as f p g) = count own f + count_pattern own p + count own g
  count own (tree.reduce f p g h) = count own f + count_pattern own p + count own g + count own h
  count own (tree.foreach f p g h i) = count own f + count_pattern own p + count own g + count own h + count own i
  count own (tree.define n ps f g) =
      count (with_parameters ps (to_function n (length ps) ∷ own)) f + count (to_function n (length ps) ∷ own) g
  count own (tree.call n ts) = (if is_inputs own n (trees_count ts) then 1 else 0) + count_trees own ts
  count own (tree.prelude_call n ts) = count_trees own ts

  pub count_trees : Scope → Trees → ℕ
  count_trees own no_trees = 0
  count_trees own (more_trees t ts) = count own t + count_trees own ts

  pub count_pieces : Scope → Pieces → ℕ
  count_pieces own (last_piece cs) = 0
  count_pieces own (more_pieces cs t ps) = count own t + count_pieces own ps

  pub count_entry : Scope → Entry → ℕ
  count_entry own (tree.named key value) = count own value
  count_entry own (tree.computed key value) = count own key + count own value
  count_entry own (tree.own key) = count own key

  pub count_entries : Scope → Entries → ℕ
  count_entries own no_entries = 0
  count_entries own (more_entries e es) = count_entry own e + count_entries own es

  pub count_pattern : Scope → Pattern → ℕ
  count_pattern own (whole n) = 0
  count_pattern own (tree.items ps) = count_patterns own ps
  count_pattern own (tree.members ps) = count_parts own ps

  pub count_patterns : Scope → Patterns → ℕ
  count_patterns own no_patterns = 0
  count_patterns own (more_patterns p ps) = count_pattern own p + count_patterns own ps

  pub count_part : Scope → Part → ℕ
  count_part own (tree.keyed key p) = count own key + count_pattern own p
  count_part own (tree.keyed_variable n p) = count_pattern own p

  pub count_parts : Scope → Parts → ℕ
  count_parts own no_parts = 0
  count_parts own (more_parts p ps) = count_part own p + count_parts own ps

-- A filter with at most one output, by its form: literals, strings without interpolation, `.`, variables and arrays, and
-- unary minus, operators on two values, unguarded fields, and objects with plain keys, all of such parts.
abbrev mutual
  pub at_most_one : Tree → Bool
  at_most_one tree.identity = true
  at_most_one (tree.literal v) = true
  at_most_one (tree.variable n) = true
  at_most_one (tree.array f) = true
  at_most_one (tree.negation f) = at_most_one f
  at_most_one (tree.binary op f g) = at_most_one f && at_most_one g
  at_most_one (tree.field f n mark) = not mark && at_most_one f
  at_most_one (tree.object es) = at_most_one_each es
  at_most_one _ = false

  pub at_most_one_of : Entry → Bool
  at_most_one_of (tree.named key value) = at_most_one value
  at_most_one_of _ = false

  pub at_most_one_each : Entries → Bool
  at_most_one_each no_entries = true
  at_most_one_each (more_entries e es) = at_most_one_of e && at_most_one_each es

-- Such a filter, without `inputs`.
abbrev pub Single : Scope → Tree → Type 0
Single own t = (at_most_one t ≡ true) × (count own t ≡ 0)

abbrev pub SingleEntry : Scope → Entry → Type 0
SingleEntry own e = (at_most_one_of e ≡ true) × (count_entry own e ≡ 0)

abbrev pub SingleEntries : Scope → Entries → Type 0
SingleEntries own es = (at_most_one_each es ≡ true) × (count_entries own es ≡ 0)

mutual
  -- If the tree is evaluated at most once, so is the `inputs` in it.
  pub data Once : Scope → Tree → Type 0 where
    itself : {own : Scope} → IsOuter own inputs 0 → Once own (tree.call inputs no_trees)
    in_array : {own : Scope} {f : Tree} → Once own f → Once own (tree.array f)
    in_label : {own : Scope} {n : Name} {f : Tree} → Once own f → Once own (tree.label n f)
    after_definition : {own : Scope} {n : Name} {ps : List Name} {f g : Tree} → Once (to_function n (length ps) ∷ own) g → Once own (tree.define n ps f g)
    tried : {own : Scope} {f g : Tree} → Once own f → Once own (tree.try_catch f g)
    piped : {own : Scope} {f g : Tree} → Once own f → Once own (tree.pipe f g)
    preferred : {own : Scope} {f g : Tree} → Once own f → Once own (tree.alternative f g)
    bound : {own : Scope} {p : Pattern} {f g : Tree} → Once own f → Once own (tree.bind_as f p g)
    tested : {own : Scope} {f g h : Tree} → Once own f → Once own (tree.choice f g h)
    iterated : {own : Scope} {f : Tree} {mark : Bool} → Once own f → Once own (tree.iterate f mark)
    in_field : {own : Scope} {n : Name} {f : Tree} {mark : Bool} → Once own f → Once own (tree.field f n mark)
    in_part : {own : Scope} {f g : Tree} {mark : Bool} → Once own f → Single own g → Once own (tree.index f g mark)
    comma_left : {own : Scope} {f g : Tree} → Once own f → Once own (tree.comma f g)
    comma_right : {own : Scope} {f g : Tree} → Once own g → Once own (tree.comma f g)
    operand_right : {own : Scope} {op : Operator} {f g : Tree} → Once own g → Once own (tree.binary op f g)
    operand_left : {own : Scope} {op : Operator} {f g : Tree} → Once own f → Single own g → Once own (tree.binary op f g)
    in_object : {own : Scope} {es : Entries} → OnceEntries own es → Once own (tree.object es)
    reduced : {own : Scope} {p : Pattern} {f g h : Tree} → Once own f → Single own g → Once own (tree.reduce f p g h)
    folded : {own : Scope} {p : Pattern} {f g h i : Tree} → Once own f → Single own g → Once own (tree.foreach f p g h i)
    in_first : {own : Scope} {f : Tree} → IsOuter own (codes "first") 1 → Once own f → Once own (tree.call (codes "first") (more_trees f no_trees))
    in_last : {own : Scope} {f : Tree} → IsOuter own (codes "last") 1 → Once own f → Once own (tree.call (codes "last") (more_trees f no_trees))
    in_isempty : {own : Scope} {f : Tree} → IsOuter own (codes "isempty") 1 → Once own f → Once own (tree.call (codes "isempty") (more_trees f no_trees))
    in_any : {own : Scope} {f g : Tree} → IsOuter own (codes "any") 2 → Once own f → Once own (tree.call (codes "any") (more_trees f (more_trees g no_trees)))
    in_all : {own : Scope} {f g : Tree} → IsOuter own (codes "all") 2 → Once own f → Once own (tree.call (codes "all") (more_trees f (more_trees g no_trees)))
    in_limit : {own : Scope} {f g : Tree} → IsOuter own (codes "limit") 2 → Single own f → Once own g
        → Once own (tree.call (codes "limit") (more_trees f (more_trees g no_trees)))

  -- The `inputs` is in the value of an entry with a plain key, and each other entry has at most one output.
  pub data OnceEntries : Scope → Entries → Type 0 where
    in_this : {own : Scope} {key : List ℕ} {f : Tree} {es : Entries} → Once own f → SingleEntries own es → OnceEntries own (more_entries (tree.named key f) es)
    in_another : {own : Scope} {e : Entry} {es : Entries} → SingleEntry own e → OnceEntries own es → OnceEntries own (more_entries e es)

-- The filter has at most one `inputs`, and evaluates it at most once.
abbrev pub InputsInPlace : Tree → Type 0
InputsInPlace t = (count [] t ≡ 0) ⊎ ((count [] t ≡ 1) × Once [] t)

-- ---- filters that fold their inputs

-- `reduce inputs as P (I; U)`, or a `foreach` of that form, where I has at most one output.
pub data Folds : Scope → Tree → Type 0 where
  by_reduce : {own : Scope} {p : Pattern} {start update : Tree} → IsOuter own inputs 0 → Single own start
      → Folds own (tree.reduce (tree.call inputs no_trees) p start update)
  by_foreach : {own : Scope} {p : Pattern} {start update extract : Tree} → IsOuter own inputs 0 → Single own start
      → Folds own (tree.foreach (tree.call inputs no_trees) p start update extract)

-- Such a fold, alone or piped into a filter, after any definitions.
pub data FoldShape : Scope → Tree → Type 0 where
  fold_alone : {own : Scope} {t : Tree} → Folds own t → FoldShape own t
  fold_piped : {own : Scope} {f g : Tree} → Folds own f → FoldShape own (tree.pipe f g)
  fold_after : {own : Scope} {n : Name} {ps : List Name} {f g : Tree} → FoldShape (to_function n (length ps) ∷ own) g → FoldShape own (tree.define n ps f g)
