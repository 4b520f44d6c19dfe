-- What a walk over a program still has to visit: the names that are used there, in the order of the text, and a bound on the
-- number of parts.
use Rattle.std.specs.Prelude.{ℕ, suc, ◌+◌, List, [], ◌∷◌, ◌++◌, map, length, Option, Some, None, Bool, true, false}
use Rattle.jv_data.specs.Text.{text_of}
use Rattle.jq_tree.specs.Tree as tree
use Rattle.jq_tree.specs.BoundTree.{Binder, nowhere, BoundPieces}
use Rattle.jq_tree.specs.BoundTree as form
use Rattle.jq_tree.specs.Binders.{Use, uses, uses_trees, uses_pieces, uses_entries, uses_pattern, uses_patterns, uses_parts}
use Rattle.jq_tree.specs.Names.{Reference, to_function, to_variable, to_label, to_format}
use Rattle.jq_ast.specs.Named.{name_of}
use Rattle.jq_ast.specs.Bound.{binder_at, bound, bound_trees, bound_patterns, bound_parts}
use Rattle.jq_resolver.specs.private.BoundParts.{bound_as_part, bound_as_pattern}
use Rattle.jq_ast.specs.declared.names.Name.{Name}
use Rattle.jq_ast.specs.declared.tree.Function.{Function}
use Rattle.jq_ast.specs.declared.tree.Piece.{Piece}
use Rattle.jq_ast.specs.declared.tree.Tree.{Tree}
use Rattle.jq_resolver.specs.Programs.{bound_program}
use Rattle.jq_resolver.specs.private.Resolved.{entries_at}
use Rattle.jq_resolver.specs.private.Visits.{tree_visits, trees_visits, pieces_visits, entries_visits, pattern_visits, patterns_visits, parts_visits}
use Rattle.jq_resolver.specs.declared.uses.Sort.{Sort}
use Rattle.jq_resolver.specs.declared.uses.Sort.TheVariants as sort
use Rattle.jq_resolver.specs.declared.uses.UsedName.{UsedName}
use Rattle.jq_resolver.specs.declared.uses.Part.{Part}
use Rattle.jq_resolver.specs.declared.uses.Part.TheVariants as part
use Rattle.jq_resolver.specs.declared.uses.Waiting.{Waiting}
use Rattle.jq_resolver.specs.declared.uses.Uses.{Uses}

-- ---- a name

abbrev pub referred_by : Sort → tree.Name → Reference
referred_by (sort.Function arity) n = to_function n arity
referred_by sort.Variable n = to_variable n
referred_by sort.Label n = to_label n
referred_by sort.Format n = to_format n

abbrev pub reference_at : Sort → Name → Reference
reference_at s x = referred_by s (name_of x)

abbrev pub use_at : Sort → Name → (around : ℕ) → Use
use_at s x n = (reference_at s x, binder_at (reference_at s x) x.referent n)

abbrev pub use_of : UsedName → Use
use_of u = use_at u.sort u.name.now u.around

abbrev pub is_somewhere : Binder → Bool
is_somewhere nowhere = false
is_somewhere b = true

-- ---- a part of a program

abbrev pub pieces_at : List (Piece Tree) → ℕ → BoundPieces
pieces_at [] n = form.last_piece []
pieces_at (p ∷ ps) n = form.more_pieces (text_of p.before) (bound p.tree n) (pieces_at ps n)

abbrev pub program_visits : List (Function Tree) → Tree → (around : ℕ) → ℕ
program_visits [] t n = suc (tree_visits (bound t n))
program_visits (f ∷ fs) t n = suc (tree_visits (bound f.body (suc n + length f.parameters.items)) + program_visits fs t (suc n))

abbrev pub uses_of : Part → (around : ℕ) → List Use
uses_of (part.Program fs t) n = uses (bound_program fs.now t.now n)
uses_of (part.Name s x) n = use_at s x.now n ∷ []
uses_of (part.Tree t) n = uses (bound t.now n)
uses_of (part.Trees ts) n = uses_trees (bound_trees (map bound ts.now) n)
uses_of (part.Pieces ps) n = uses_pieces (pieces_at ps.now n)
uses_of (part.Entries es) n = uses_entries (entries_at es.now n)
uses_of (part.Pattern p) n = uses_pattern (bound_as_pattern p.now n)
uses_of (part.Patterns ps) n = uses_patterns (bound_patterns (map bound_as_pattern ps.now) n)
uses_of (part.Members ms) n = uses_parts (bound_parts (map bound_as_part ms.now) n)

abbrev pub visits_of : Part → (around : ℕ) → ℕ
visits_of (part.Program fs t) n = program_visits fs.now t.now n
visits_of (part.Name s x) n = 1
visits_of (part.Tree t) n = tree_visits (bound t.now n)
visits_of (part.Trees ts) n = trees_visits (bound_trees (map bound ts.now) n)
visits_of (part.Pieces ps) n = pieces_visits (pieces_at ps.now n)
visits_of (part.Entries es) n = entries_visits (entries_at es.now n)
visits_of (part.Pattern p) n = pattern_visits (bound_as_pattern p.now n)
visits_of (part.Patterns ps) n = patterns_visits (bound_patterns (map bound_as_pattern ps.now) n)
visits_of (part.Members ms) n = parts_visits (bound_parts (map bound_as_part ms.now) n)

-- ---- the waiting parts, the last one first

abbrev pub uses_waiting : List Waiting → List Use
uses_waiting [] = []
uses_waiting (w ∷ ws) = uses_waiting ws ++ uses_of w.part w.around

abbrev pub visits_waiting : List Waiting → ℕ
visits_waiting [] = 0
visits_waiting (w ∷ ws) = visits_of w.part w.around + visits_waiting ws

abbrev pub names_left : Uses → List Use
names_left u = uses_waiting u.waiting.items

abbrev pub visits_left : Uses → ℕ
visits_left u = visits_waiting u.waiting.items

-- A name, and the uses after it.
abbrev pub then_left : Option UsedName → List Use → List Use
then_left None us = us
then_left (Some u) us = use_of u ∷ us
