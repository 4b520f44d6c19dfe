-- A tree as the definition's tree with binders, inside a given number of binders.
--
-- If a referent does not fit the name, the name is bound nowhere.
use Rattle.std.specs.Prelude.{ℕ, suc, ◌+◌, ◌-◌, List, [], ◌∷◌, map, length, String, Bool, false, nat_lt, if◌then◌else◌, Option, Some, None}
use Rattle.std.specs.declared.alloc.Global.{Global}
use Rattle.jv_data.specs.Text.{text_of}
use Rattle.jv_text.specs.declared.formats.names.Format.{Format}
use Rattle.jv_text.specs.contracts.formats.names.FormatPartialEq.TheImpl as format_eq
use Rattle.jv_text.specs.Formats.{format_named}
use Rattle.jq_natives.specs.declared.native.Native.{Native}
use Rattle.jq_natives.specs.Natives.{native_named, same_native}
use Rattle.jq_tree.specs.Names.{Reference, to_function, to_variable, to_label, to_format, same_reference}
use Rattle.jq_tree.specs.BoundTree.{Binder, bound_at, in_language, nowhere, BoundTree, BoundTrees, BoundPieces, BoundEntry, BoundEntries, BoundPattern, BoundPatterns, BoundPart, BoundParts}
use Rattle.jq_tree.specs.BoundTree as tied
use Rattle.jq_ast.specs.CoreNames.{core_reference}
use Rattle.jq_ast.specs.Leaves.{literal_of, key_of, operator_of}
use Rattle.jq_ast.specs.Named.{name_of}
use Rattle.jq_ast.specs.declared.names.Name.{Name}
use Rattle.jq_ast.specs.declared.names.Referent.{Referent}
use Rattle.jq_ast.specs.declared.names.Referent.TheVariants as referent
use Rattle.jq_ast.specs.declared.tree.Entry.{Entry}
use Rattle.jq_ast.specs.declared.tree.Entry.TheVariants as entry
use Rattle.jq_ast.specs.declared.tree.Piece.{Piece}
use Rattle.jq_ast.specs.declared.tree.Tree.{Tree}
use Rattle.jq_ast.specs.declared.tree.Member.TheFolds.{fold-Tree}
use Rattle.jq_ast.specs.declared.tree.Member.TheOpen.{Tree-F, Pattern-F, Member-F}

-- ---- the binder of a name, by its referent

-- Whether two formats are one: their derived `==`.
abbrev pub same_format : Format → Format → Bool
same_format = (format_eq.ghosts).eq

abbrev pub is_native : Native → Option Native → Bool
is_native f None = false
is_native f (Some g) = same_native g f

abbrev pub is_format : Format → Option Format → Bool
is_format f None = false
is_format f (Some g) = same_format g f

abbrev pub means_native : Native → Reference → Bool
means_native f (to_function n arity) = is_native f (native_named n arity)
means_native f r = false

abbrev pub means_format : Format → Reference → Bool
means_format f (to_format n) = is_format f (format_named n)
means_format f r = false

-- The binder of a name with this referent; `around` is the number of binders around the name.
abbrev pub binder_at : Reference → Referent → (around : ℕ) → Binder
binder_at r referent.Unresolved n = nowhere
binder_at r (referent.Inner i) n = bound_at i
binder_at r (referent.Outer i) n = if nat_lt i n then bound_at (n - suc i) else nowhere
binder_at r (referent.Native f) n = if means_native f r then in_language else nowhere
binder_at r (referent.Core c) n = if same_reference (core_reference c) r then in_language else nowhere
binder_at r (referent.Format f) n = if means_format f r then in_language else nowhere

abbrev pub function_at : Name → (arity around : ℕ) → Binder
function_at n arity around = binder_at (to_function (name_of n) arity) n.referent around

abbrev pub variable_at : Name → (around : ℕ) → Binder
variable_at n around = binder_at (to_variable (name_of n)) n.referent around

abbrev pub label_at : Name → (around : ℕ) → Binder
label_at n around = binder_at (to_label (name_of n)) n.referent around

abbrev pub format_at : Name → (around : ℕ) → Binder
format_at n around = binder_at (to_format (name_of n)) n.referent around

-- ---- how many variables a pattern binds

abbrev mutual
  pub variables_in : BoundPattern → ℕ
  variables_in (tied.whole n) = 1
  variables_in (tied.items ps) = variables_in_items ps
  variables_in (tied.members ps) = variables_in_parts ps

  pub variables_in_items : BoundPatterns → ℕ
  variables_in_items tied.no_patterns = 0
  variables_in_items (tied.more_patterns p ps) = variables_in p + variables_in_items ps

  pub variables_in_part : BoundPart → ℕ
  variables_in_part (tied.keyed key p) = variables_in p
  variables_in_part (tied.keyed_variable n p) = suc (variables_in p)

  pub variables_in_parts : BoundParts → ℕ
  variables_in_parts tied.no_parts = 0
  variables_in_parts (tied.more_parts p ps) = variables_in_part p + variables_in_parts ps

-- ---- one level; each tree inside is already its bound tree, as a function of the number of binders around it

abbrev pub Around : Type 0 → Type 0
Around A = ℕ → A

abbrev pub bound_trees : List (Around BoundTree) → Around BoundTrees
bound_trees [] n = tied.no_trees
bound_trees (t ∷ ts) n = tied.more_trees (t n) (bound_trees ts n)

abbrev pub bound_pieces : List (Piece (Around BoundTree)) → String Global → Around BoundPieces
bound_pieces [] last n = tied.last_piece (text_of last)
bound_pieces (p ∷ ps) last n = tied.more_pieces (text_of p.before) (p.tree n) (bound_pieces ps last n)

abbrev pub bound_entry : Entry (Around BoundTree) → Around BoundEntry
bound_entry (entry.Named key value) n = tied.named (key_of key) (value n)
bound_entry (entry.Computed key value) n = tied.computed (key n) (value n)
bound_entry (entry.Own key) n = tied.own (key n)

abbrev pub bound_entries : List (Entry (Around BoundTree)) → Around BoundEntries
bound_entries [] n = tied.no_entries
bound_entries (e ∷ es) n = tied.more_entries (bound_entry e n) (bound_entries es n)

abbrev pub bound_patterns : List (Around BoundPattern) → Around BoundPatterns
bound_patterns [] n = tied.no_patterns
bound_patterns (p ∷ ps) n = tied.more_patterns (p n) (bound_patterns ps (n + variables_in (p n)))

abbrev pub bound_parts : List (Around BoundPart) → Around BoundParts
bound_parts [] n = tied.no_parts
bound_parts (p ∷ ps) n = tied.more_parts (p n) (bound_parts ps (n + variables_in_part (p n)))

abbrev pub bound_member : Member-F (Around BoundPart) (Around BoundPattern) (Around BoundTree) → Around BoundPart
bound_member (Member-F.Keyed key p) n = tied.keyed (key.value n) (p n)
bound_member (Member-F.KeyedVariable name p) n = tied.keyed_variable (text_of name) (p (suc n))

abbrev pub bound_pattern : Pattern-F (Around BoundPart) (Around BoundPattern) (Around BoundTree) → Around BoundPattern
bound_pattern (Pattern-F.Whole name) n = tied.whole (text_of name)
bound_pattern (Pattern-F.Items ps) n = tied.items (bound_patterns ps.items n)
bound_pattern (Pattern-F.Members ps) n = tied.members (bound_parts ps.items n)

abbrev pub bound_tree : Tree-F (Around BoundPart) (Around BoundPattern) (Around BoundTree) → Around BoundTree
bound_tree Tree-F.Identity n = tied.identity
bound_tree Tree-F.Empty n = tied.empty
bound_tree (Tree-F.Literal v) n = tied.literal (literal_of v)
bound_tree (Tree-F.Text f ps last) n = tied.text (name_of f) (format_at f n) (bound_pieces ps.items last n)
bound_tree (Tree-F.Format f) n = tied.format (name_of f) (format_at f n)
bound_tree (Tree-F.Variable x) n = tied.variable (name_of x) (variable_at x n)
bound_tree (Tree-F.Field f key mark) n = tied.field (f.value n) (key_of key) mark
bound_tree (Tree-F.Index f key mark) n = tied.index (f.value n) (key.value n) mark
bound_tree (Tree-F.Slice f from to mark) n = tied.slice (f.value n) (from.value n) (to.value n) mark
bound_tree (Tree-F.Iterate f mark) n = tied.iterate (f.value n) mark
bound_tree (Tree-F.Pipe f g) n = tied.pipe (f.value n) (g.value n)
bound_tree (Tree-F.Comma f g) n = tied.comma (f.value n) (g.value n)
bound_tree (Tree-F.Binary op f g) n = tied.binary (operator_of op) (f.value n) (g.value n)
bound_tree (Tree-F.And f g) n = tied.conjunction (f.value n) (g.value n)
bound_tree (Tree-F.Or f g) n = tied.disjunction (f.value n) (g.value n)
bound_tree (Tree-F.Alternative f g) n = tied.alternative (f.value n) (g.value n)
bound_tree (Tree-F.Negation f) n = tied.negation (f.value n)
bound_tree (Tree-F.Array f) n = tied.array (f.value n)
bound_tree (Tree-F.Object es) n = tied.object (bound_entries es.items n)
bound_tree (Tree-F.Choice f g h) n = tied.choice (f.value n) (g.value n) (h.value n)
bound_tree (Tree-F.TryCatch f g) n = tied.try_catch (f.value n) (g.value n)
bound_tree (Tree-F.Label x f) n = tied.label (text_of x) (f.value (suc n))
bound_tree (Tree-F.Break x) n = tied.break (name_of x) (label_at x n)
bound_tree (Tree-F.BindAs f p g) n = tied.bind_as (f.value n) (p.value n) (g.value (n + variables_in (p.value n)))
bound_tree (Tree-F.Reduce f p g h) n = tied.reduce (f.value n) (p.value n) (g.value n) (h.value (n + variables_in (p.value n)))
bound_tree (Tree-F.Foreach f p g h i) n = tied.foreach (f.value n) (p.value n) (g.value n) (h.value (n + variables_in (p.value n))) (i.value (n + variables_in (p.value n)))
bound_tree (Tree-F.Define f g) n =
    tied.define (text_of f.value.name) (map text_of f.value.parameters.items) (f.value.body (suc n + length f.value.parameters.items)) (g.value (suc n))
bound_tree (Tree-F.Call f ts) n = tied.call (name_of f) (function_at f (length ts.items) n) (bound_trees ts.items n)
bound_tree (Tree-F.PreludeCall f ts) n = tied.prelude_call (name_of f) (function_at f (length ts.items) n) (bound_trees ts.items n)
bound_tree (Tree-F.Update m ts) n = tied.prelude_call (name_of m.name) (function_at m.name (length ts.value) n) (bound_trees ts.value n)

abbrev pub bound : Tree → (around : ℕ) → BoundTree
bound = fold-Tree (Around BoundPart) (Around BoundPattern) (Around BoundTree) bound_member bound_pattern bound_tree
