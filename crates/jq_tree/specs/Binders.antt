-- Which binder a name has, and which name of a filter has none.
--
-- It is the innermost one of that name: a later definition hides an earlier one, a parameter or a variable hides the same name
-- outside, and a function sees itself rather than an earlier one of its name (manual of jq 1.7, "Scoping", "Defining Functions",
-- "Variable / Symbolic Binding Operator"). A name that no scope binds may be a part of the language. The functions that the
-- written-out forms call are the prelude's own, which are outside every filter: the outermost ones of their names.
--
-- Which parts see which binders, besides those around the whole form (every other form passes its scope on to its parts):
--   `label $x | f`                     f sees the label
--   `f as P | g`                       g sees the variables of P, and a key in P those before it in P; f sees none
--   `reduce f as P (i; u)`             u sees the variables of P; f and i see none
--   `foreach f as P (i; u; x)`         u and x see them; f and i see none
--   `def f(a; b): body; rest`          body sees f, a and b, the later parameter innermost; rest sees f
use Rattle.std.specs.Prelude.{◌≡◌, suc, List, [], ◌∷◌, ◌++◌, length, if◌then◌else◌}
use Rattle.jq_tree.specs.Tree.{Name, Tree, Trees, no_trees, more_trees, trees_count, Pieces, last_piece, more_pieces, Entry, Entries, no_entries, more_entries, Pattern, whole, Patterns, no_patterns, more_patterns, Part, Parts, no_parts, more_parts}
use Rattle.jq_tree.specs.Tree as tree
use Rattle.jq_tree.specs.BoundTree.{Binder, bound_at, in_language, nowhere, BoundTree, BoundTrees, BoundPieces, BoundEntry, BoundEntries, BoundPattern, BoundPatterns, BoundPart, BoundParts, bound_count}
use Rattle.jq_tree.specs.BoundTree as bound
use Rattle.jq_tree.specs.Names.{Reference, to_function, to_variable, to_label, to_format, same_reference, Scope, is_bound, with_parameters, with_pattern, with_part, variables_of, language}

-- ---- the binder of one name

-- The same binder, seen from inside one more binder.
abbrev pub from_inside : Binder → Binder
from_inside (bound_at n) = bound_at (suc n)
from_inside b = b

abbrev pub binder : Scope → Reference → Binder
binder [] r = if is_bound r language then in_language else nowhere
binder (b ∷ bs) r = if same_reference r b then bound_at 0 else from_inside (binder bs r)

abbrev pub prelude_binder : Scope → Reference → Binder
prelude_binder [] r = nowhere
prelude_binder (b ∷ bs) r = if is_bound r bs then from_inside (prelude_binder bs r)
    else if same_reference r b then bound_at 0 else nowhere

-- ---- the binders of a tree's names

-- The variables of a pattern are binders; names occur only in its keys.
abbrev mutual
  pub bound_in : Scope → Tree → BoundTree
  bound_in s tree.identity = bound.identity
  bound_in s tree.empty = bound.empty
  bound_in s (tree.literal v) = bound.literal v
  bound_in s (tree.text f ps) = bound.text f (binder s (to_format f)) (pieces_in s ps)
  bound_in s (tree.format f) = bound.format f (binder s (to_format f))
  bound_in s (tree.variable n) = bound.variable n (binder s (to_variable n))
  bound_in s (tree.field t n mark) = bound.field (bound_in s t) n mark
  bound_in s (tree.index t key mark) = bound.index (bound_in s t) (bound_in s key) mark
  bound_in s (tree.slice t from to mark) = bound.slice (bound_in s t) (bound_in s from) (bound_in s to) mark
  bound_in s (tree.iterate t mark) = bound.iterate (bound_in s t) mark
  bound_in s (tree.pipe f g) = bound.pipe (bound_in s f) (bound_in s g)
  bound_in s (tree.comma f g) = bound.comma (bound_in s f) (bound_in s g)
  bound_in s (tree.binary op f g) = bound.binary op (bound_in s f) (bound_in s g)
  bound_in s (tree.conjunction f g) = bound.conjunction (bound_in s f) (bound_in s g)
  bound_in s (tree.disjunction f g) = bound.disjunction (bound_in s f) (bound_in s g)
  bound_in s (tree.alternative f g) = bound.alternative (bound_in s f) (bound_in s g)
  bound_in s (tree.negation f) = bound.negation (bound_in s f)
  bound_in s (tree.array f) = bound.array (bound_in s f)
  bound_in s (tree.object es) = bound.object (entries_in s es)
  bound_in s (tree.choice f g h) = bound.choice (bound_in s f) (bound_in s g) (bound_in s h)
  bound_in s (tree.try_catch f g) = bound.try_catch (bound_in s f) (bound_in s g)
  bound_in s (tree.label n f) = bound.label n (bound_in (to_label n ∷ s) f)
  bound_in s (tree.break n) = bound.break n (binder s (to_label n))
  bound_in s (tree.bind_as f p g) = bound.bind_as (bound_in s f) (pattern_in s p) (bound_in (with_pattern p s) g)
  bound_in s (tree.reduce f p g h) = bound.reduce (bound_in s f) (pattern_in s p) (bound_in s g) (bound_in (with_pattern p s) h)
  bound_in s (tree.foreach f p g h i) =
      bound.foreach (bound_in s f) (pattern_in s p) (bound_in s g) (bound_in (with_pattern p s) h) (bound_in (with_pattern p s) i)
  bound_in s (tree.define n ps f g) =
      bound.define n ps (bound_in (with_parameters ps (to_function n (length ps) ∷ s)) f) (bound_in (to_function n (length ps) ∷ s) g)
  bound_in s (tree.call n ts) = bound.call n (binder s (to_function n (trees_count ts))) (trees_in s ts)
  bound_in s (tree.prelude_call n ts) = bound.prelude_call n (prelude_binder s (to_function n (trees_count ts))) (trees_in s ts)

  pub trees_in : Scope → Trees → BoundTrees
  trees_in s no_trees = bound.no_trees
  trees_in s (more_trees t ts) = bound.more_trees (bound_in s t) (trees_in s ts)

  pub pieces_in : Scope → Pieces → BoundPieces
  pieces_in s (last_piece cs) = bound.last_piece cs
  pieces_in s (more_pieces cs t ps) = bound.more_pieces cs (bound_in s t) (pieces_in s ps)

  pub entry_in : Scope → Entry → BoundEntry
  entry_in s (tree.named key value) = bound.named key (bound_in s value)
  entry_in s (tree.computed key value) = bound.computed (bound_in s key) (bound_in s value)
  entry_in s (tree.own key) = bound.own (bound_in s key)

  pub entries_in : Scope → Entries → BoundEntries
  entries_in s no_entries = bound.no_entries
  entries_in s (more_entries e es) = bound.more_entries (entry_in s e) (entries_in s es)

  -- A key sees the variables that the pattern bound before it.
  pub pattern_in : Scope → Pattern → BoundPattern
  pattern_in s (whole n) = bound.whole n
  pattern_in s (tree.items ps) = bound.items (patterns_in s ps)
  pattern_in s (tree.members ps) = bound.members (parts_in s ps)

  pub patterns_in : Scope → Patterns → BoundPatterns
  patterns_in s no_patterns = bound.no_patterns
  patterns_in s (more_patterns p ps) = bound.more_patterns (pattern_in s p) (patterns_in (with_pattern p s) ps)

  pub part_in : Scope → Part → BoundPart
  part_in s (tree.keyed key p) = bound.keyed (bound_in s key) (pattern_in s p)
  part_in s (tree.keyed_variable n p) = bound.keyed_variable n (pattern_in (to_variable n ∷ s) p)

  pub parts_in : Scope → Parts → BoundParts
  parts_in s no_parts = bound.no_parts
  parts_in s (more_parts p ps) = bound.more_parts (part_in s p) (parts_in (with_part p s) ps)

-- ---- the names of a tree in the order of the text

-- A name with its binder.
abbrev pub Use : Type 0
Use = Reference × Binder

-- The source of a binding comes before its body in the text, except in the written-out form of `f op= g`, which alone binds
-- the variable without a name: there g is the source, and f, in the body, comes before it.
abbrev pub in_text_order : BoundPattern → (source body : List Use) → List Use
in_text_order (bound.whole []) source body = body ++ source
in_text_order _ source body = source ++ body

abbrev mutual
  pub uses : BoundTree → List Use
  uses bound.identity = []
  uses bound.empty = []
  uses (bound.literal v) = []
  uses (bound.text f b ps) = (to_format f, b) ∷ uses_pieces ps
  uses (bound.format f b) = (to_format f, b) ∷ []
  uses (bound.variable n b) = (to_variable n, b) ∷ []
  uses (bound.field t n mark) = uses t
  uses (bound.index t key mark) = uses t ++ uses key
  uses (bound.slice t from to mark) = uses t ++ uses from ++ uses to
  uses (bound.iterate t mark) = uses t
  uses (bound.pipe f g) = uses f ++ uses g
  uses (bound.comma f g) = uses f ++ uses g
  uses (bound.binary op f g) = uses f ++ uses g
  uses (bound.conjunction f g) = uses f ++ uses g
  uses (bound.disjunction f g) = uses f ++ uses g
  uses (bound.alternative f g) = uses f ++ uses g
  uses (bound.negation f) = uses f
  uses (bound.array f) = uses f
  uses (bound.object es) = uses_entries es
  uses (bound.choice f g h) = uses f ++ uses g ++ uses h
  uses (bound.try_catch f g) = uses f ++ uses g
  uses (bound.label n f) = uses f
  uses (bound.break n b) = (to_label n, b) ∷ []
  uses (bound.bind_as f p g) = in_text_order p (uses f) (uses_pattern p ++ uses g)
  uses (bound.reduce f p g h) = uses f ++ uses_pattern p ++ uses g ++ uses h
  uses (bound.foreach f p g h i) = uses f ++ uses_pattern p ++ uses g ++ uses h ++ uses i
  uses (bound.define n ps f g) = uses f ++ uses g
  uses (bound.call n b ts) = (to_function n (bound_count ts), b) ∷ uses_trees ts
  uses (bound.prelude_call n b ts) = (to_function n (bound_count ts), b) ∷ uses_trees ts

  pub uses_trees : BoundTrees → List Use
  uses_trees bound.no_trees = []
  uses_trees (bound.more_trees t ts) = uses t ++ uses_trees ts

  pub uses_pieces : BoundPieces → List Use
  uses_pieces (bound.last_piece cs) = []
  uses_pieces (bound.more_pieces cs t ps) = uses t ++ uses_pieces ps

  pub uses_entry : BoundEntry → List Use
  uses_entry (bound.named key value) = uses value
  uses_entry (bound.computed key value) = uses key ++ uses value
  uses_entry (bound.own key) = uses key

  pub uses_entries : BoundEntries → List Use
  uses_entries bound.no_entries = []
  uses_entries (bound.more_entries e es) = uses_entry e ++ uses_entries es

  pub uses_pattern : BoundPattern → List Use
  uses_pattern (bound.whole n) = []
  uses_pattern (bound.items ps) = uses_patterns ps
  uses_pattern (bound.members ps) = uses_parts ps

  pub uses_patterns : BoundPatterns → List Use
  uses_patterns bound.no_patterns = []
  uses_patterns (bound.more_patterns p ps) = uses_pattern p ++ uses_patterns ps

  pub uses_part : BoundPart → List Use
  uses_part (bound.keyed key p) = uses key ++ uses_pattern p
  uses_part (bound.keyed_variable n p) = uses_pattern p

  pub uses_parts : BoundParts → List Use
  uses_parts bound.no_parts = []
  uses_parts (bound.more_parts p ps) = uses_part p ++ uses_parts ps

abbrev pub without_binder : List Use → List Reference
without_binder [] = []
without_binder ((r, nowhere) ∷ us) = r ∷ without_binder us
without_binder ((r, b) ∷ us) = without_binder us

-- ---- a whole filter, which begins with the prelude

-- Its tree with the binders, where the command line binds these variables. Of two with the same name the first is found.
abbrev pub bound_filter : (variables : List Name) → Tree → BoundTree
bound_filter variables t = bound_in (variables_of variables) t

-- The names that nothing binds, in the order of the text.
abbrev pub unbound : (variables : List Name) → Tree → List Reference
unbound variables t = without_binder (uses (bound_filter variables t))

-- Each name has its binder, or is a part of the language.
abbrev pub Closed : (variables : List Name) → Tree → Type 0
Closed variables t = unbound variables t ≡ []

-- The first name in the order of the text that nothing binds.
abbrev pub FirstUnbound : (variables : List Name) → Tree → Reference → Type 0
FirstUnbound variables t r = (others : List Reference) × (unbound variables t ≡ r ∷ others)
