-- The bound tree of each form, by its parts.
use Rattle.std.proofs.Common.{◌≡◌, ◌∙◌, ◌+◌, ℕ, suc, Bool, List, [], ◌∷◌, length, map, Vec, String, Global, Box, ap, sym, refl}
use Rattle.std.proofs.lemmas.List.{length-map}
use Rattle.jv_data.specs.Text.{text_of}
use Rattle.jq_tree.specs.BoundTree as form
use Rattle.jq_ast.specs.Leaves.{key_of, operator_of}
use Rattle.jq_ast.specs.Named.{name_of}
use Rattle.jq_ast.specs.Bound.{Around, bound, bound_pieces, bound_entry, bound_entries, bound_trees, bound_patterns, bound_parts, bound_member, bound_pattern, bound_tree, variables_in, format_at, function_at}
use Rattle.jq_resolver.specs.private.BoundParts.{bound_as_part, bound_as_pattern}
use Rattle.jq_ast.specs.declared.leaves.Key.{Key}
use Rattle.jq_ast.specs.declared.names.Modify.{Modify}
use Rattle.jq_ast.specs.declared.names.Name.{Name}
use Rattle.jq_ast.specs.declared.operators.Operator.{Operator}
use Rattle.jq_ast.specs.declared.tree.Entry.{Entry}
use Rattle.jq_ast.specs.declared.tree.Entry.TheVariants as entry
use Rattle.jq_ast.specs.declared.tree.Piece.{Piece}
use Rattle.jq_ast.specs.declared.tree.Function.{Function}
use Rattle.jq_ast.specs.declared.tree.Member.{Member}
use Rattle.jq_ast.specs.declared.tree.Member.TheVariants as member
use Rattle.jq_ast.specs.declared.tree.Pattern.{Pattern}
use Rattle.jq_ast.specs.declared.tree.Pattern.TheVariants as pattern
use Rattle.jq_ast.specs.declared.tree.Tree.{Tree}
use Rattle.jq_ast.specs.declared.tree.Tree.TheVariants as code
use Rattle.jq_ast.specs.declared.tree.Member.TheFolds.{fold-roll-Tree, fold-roll-Pattern, fold-roll-Member}
use Rattle.jq_ast.specs.declared.tree.Member.TheOpen.{Tree-F, Pattern-F, Member-F}
use Rattle.jq_resolver.specs.private.Resolved.{entries_at}

-- a piece with the bound tree in it
abbrev pub bound_piece : Piece Tree → Piece (Around form.BoundTree)
bound_piece p = record { before = p.before; tree = bound p.tree }

-- ---- entries, as the fold sees them

bound_entries_at : (M : Entry Tree → Entry (Around form.BoundTree)) (n : ℕ) → ((k : Key) (v : Tree) → bound_entry (M (entry.Named k v)) n ≡ form.named (key_of k) (bound v n))
    → ((k v : Tree) → bound_entry (M (entry.Computed k v)) n ≡ form.computed (bound k n) (bound v n)) → ((k : Tree) → bound_entry (M (entry.Own k)) n ≡ form.own (bound k n))
    → (es : List (Entry Tree)) → bound_entries (map M es) n ≡ entries_at es n
bound_entries_at M n a b c [] = refl
bound_entries_at M n a b c (entry.Named k v ∷ es) = ap (λ x. form.more_entries x (bound_entries (map M es) n)) (a k v) ∙ ap (λ l. form.more_entries (form.named (key_of k) (bound v n)) l) (bound_entries_at M n a b c es)
bound_entries_at M n a b c (entry.Computed k v ∷ es) = ap (λ x. form.more_entries x (bound_entries (map M es) n)) (b k v) ∙ ap (λ l. form.more_entries (form.computed (bound k n) (bound v n)) l) (bound_entries_at M n a b c es)
bound_entries_at M n a b c (entry.Own k ∷ es) = ap (λ x. form.more_entries x (bound_entries (map M es) n)) (c k) ∙ ap (λ l. form.more_entries (form.own (bound k n)) l) (bound_entries_at M n a b c es)

-- ---- trees

pub bound-Text : (f : Name) (ps : Vec (Piece Tree) Global) (last : String Global) (n : ℕ) → bound (code.Text f ps last) n ≡ form.text (name_of f) (format_at f n) (bound_pieces (map bound_piece ps.items) last n)
bound-Text f ps last n = ap (λ t. bound t n) (sym (code.rolls-Text f ps last)) ∙ ap (λ g. g n) (fold-roll-Tree (Around form.BoundPart) (Around form.BoundPattern) (Around form.BoundTree) bound_member bound_pattern bound_tree (Tree-F.Text f ps last))

pub bound-Field : (f : Box Tree Global) (key : Key) (mark : Bool) (n : ℕ) → bound (code.Field f key mark) n ≡ form.field (bound f.value n) (key_of key) mark
bound-Field f key mark n = ap (λ t. bound t n) (sym (code.rolls-Field f key mark)) ∙ ap (λ g. g n) (fold-roll-Tree (Around form.BoundPart) (Around form.BoundPattern) (Around form.BoundTree) bound_member bound_pattern bound_tree (Tree-F.Field f key mark))

pub bound-Index : (f : Box Tree Global) (g : Box Tree Global) (mark : Bool) (n : ℕ) → bound (code.Index f g mark) n ≡ form.index (bound f.value n) (bound g.value n) mark
bound-Index f g mark n = ap (λ t. bound t n) (sym (code.rolls-Index f g mark)) ∙ ap (λ g. g n) (fold-roll-Tree (Around form.BoundPart) (Around form.BoundPattern) (Around form.BoundTree) bound_member bound_pattern bound_tree (Tree-F.Index f g mark))

pub bound-Slice : (f : Box Tree Global) (g : Box Tree Global) (h : Box Tree Global) (mark : Bool) (n : ℕ) → bound (code.Slice f g h mark) n ≡ form.slice (bound f.value n) (bound g.value n) (bound h.value n) mark
bound-Slice f g h mark n = ap (λ t. bound t n) (sym (code.rolls-Slice f g h mark)) ∙ ap (λ g. g n) (fold-roll-Tree (Around form.BoundPart) (Around form.BoundPattern) (Around form.BoundTree) bound_member bound_pattern bound_tree (Tree-F.Slice f g h mark))

pub bound-Iterate : (f : Box Tree Global) (mark : Bool) (n : ℕ) → bound (code.Iterate f mark) n ≡ form.iterate (bound f.value n) mark
bound-Iterate f mark n = ap (λ t. bound t n) (sym (code.rolls-Iterate f mark)) ∙ ap (λ g. g n) (fold-roll-Tree (Around form.BoundPart) (Around form.BoundPattern) (Around form.BoundTree) bound_member bound_pattern bound_tree (Tree-F.Iterate f mark))

pub bound-Pipe : (f : Box Tree Global) (g : Box Tree Global) (n : ℕ) → bound (code.Pipe f g) n ≡ form.pipe (bound f.value n) (bound g.value n)
bound-Pipe f g n = ap (λ t. bound t n) (sym (code.rolls-Pipe f g)) ∙ ap (λ g. g n) (fold-roll-Tree (Around form.BoundPart) (Around form.BoundPattern) (Around form.BoundTree) bound_member bound_pattern bound_tree (Tree-F.Pipe f g))

pub bound-Comma : (f : Box Tree Global) (g : Box Tree Global) (n : ℕ) → bound (code.Comma f g) n ≡ form.comma (bound f.value n) (bound g.value n)
bound-Comma f g n = ap (λ t. bound t n) (sym (code.rolls-Comma f g)) ∙ ap (λ g. g n) (fold-roll-Tree (Around form.BoundPart) (Around form.BoundPattern) (Around form.BoundTree) bound_member bound_pattern bound_tree (Tree-F.Comma f g))

pub bound-Binary : (op : Operator) (f : Box Tree Global) (g : Box Tree Global) (n : ℕ) → bound (code.Binary op f g) n ≡ form.binary (operator_of op) (bound f.value n) (bound g.value n)
bound-Binary op f g n = ap (λ t. bound t n) (sym (code.rolls-Binary op f g)) ∙ ap (λ g. g n) (fold-roll-Tree (Around form.BoundPart) (Around form.BoundPattern) (Around form.BoundTree) bound_member bound_pattern bound_tree (Tree-F.Binary op f g))

pub bound-And : (f : Box Tree Global) (g : Box Tree Global) (n : ℕ) → bound (code.And f g) n ≡ form.conjunction (bound f.value n) (bound g.value n)
bound-And f g n = ap (λ t. bound t n) (sym (code.rolls-And f g)) ∙ ap (λ g. g n) (fold-roll-Tree (Around form.BoundPart) (Around form.BoundPattern) (Around form.BoundTree) bound_member bound_pattern bound_tree (Tree-F.And f g))

pub bound-Or : (f : Box Tree Global) (g : Box Tree Global) (n : ℕ) → bound (code.Or f g) n ≡ form.disjunction (bound f.value n) (bound g.value n)
bound-Or f g n = ap (λ t. bound t n) (sym (code.rolls-Or f g)) ∙ ap (λ g. g n) (fold-roll-Tree (Around form.BoundPart) (Around form.BoundPattern) (Around form.BoundTree) bound_member bound_pattern bound_tree (Tree-F.Or f g))

pub bound-Alternative : (f : Box Tree Global) (g : Box Tree Global) (n : ℕ) → bound (code.Alternative f g) n ≡ form.alternative (bound f.value n) (bound g.value n)
bound-Alternative f g n = ap (λ t. bound t n) (sym (code.rolls-Alternative f g)) ∙ ap (λ g. g n) (fold-roll-Tree (Around form.BoundPart) (Around form.BoundPattern) (Around form.BoundTree) bound_member bound_pattern bound_tree (Tree-F.Alternative f g))

pub bound-Negation : (f : Box Tree Global) (n : ℕ) → bound (code.Negation f) n ≡ form.negation (bound f.value n)
bound-Negation f n = ap (λ t. bound t n) (sym (code.rolls-Negation f)) ∙ ap (λ g. g n) (fold-roll-Tree (Around form.BoundPart) (Around form.BoundPattern) (Around form.BoundTree) bound_member bound_pattern bound_tree (Tree-F.Negation f))

pub bound-Array : (f : Box Tree Global) (n : ℕ) → bound (code.Array f) n ≡ form.array (bound f.value n)
bound-Array f n = ap (λ t. bound t n) (sym (code.rolls-Array f)) ∙ ap (λ g. g n) (fold-roll-Tree (Around form.BoundPart) (Around form.BoundPattern) (Around form.BoundTree) bound_member bound_pattern bound_tree (Tree-F.Array f))

pub bound-Object : (es : Vec (Entry Tree) Global) (n : ℕ) → bound (code.Object es) n ≡ form.object (entries_at es.items n)
bound-Object es n = ap (λ t. bound t n) (sym (code.rolls-Object es)) ∙ ap (λ g. g n) (fold-roll-Tree (Around form.BoundPart) (Around form.BoundPattern) (Around form.BoundTree) bound_member bound_pattern bound_tree (Tree-F.Object es)) ∙ ap form.object (bound_entries_at _ n (λ k v. refl) (λ k v. refl) (λ k. refl) es.items)

pub bound-Choice : (f : Box Tree Global) (g : Box Tree Global) (h : Box Tree Global) (n : ℕ) → bound (code.Choice f g h) n ≡ form.choice (bound f.value n) (bound g.value n) (bound h.value n)
bound-Choice f g h n = ap (λ t. bound t n) (sym (code.rolls-Choice f g h)) ∙ ap (λ g. g n) (fold-roll-Tree (Around form.BoundPart) (Around form.BoundPattern) (Around form.BoundTree) bound_member bound_pattern bound_tree (Tree-F.Choice f g h))

pub bound-TryCatch : (f : Box Tree Global) (g : Box Tree Global) (n : ℕ) → bound (code.TryCatch f g) n ≡ form.try_catch (bound f.value n) (bound g.value n)
bound-TryCatch f g n = ap (λ t. bound t n) (sym (code.rolls-TryCatch f g)) ∙ ap (λ g. g n) (fold-roll-Tree (Around form.BoundPart) (Around form.BoundPattern) (Around form.BoundTree) bound_member bound_pattern bound_tree (Tree-F.TryCatch f g))

pub bound-Label : (x : String Global) (f : Box Tree Global) (n : ℕ) → bound (code.Label x f) n ≡ form.label (text_of x) (bound f.value (suc n))
bound-Label x f n = ap (λ t. bound t n) (sym (code.rolls-Label x f)) ∙ ap (λ g. g n) (fold-roll-Tree (Around form.BoundPart) (Around form.BoundPattern) (Around form.BoundTree) bound_member bound_pattern bound_tree (Tree-F.Label x f))

pub bound-BindAs : (f : Box Tree Global) (p : Box Pattern Global) (g : Box Tree Global) (n : ℕ) → bound (code.BindAs f p g) n ≡ form.bind_as (bound f.value n) (bound_as_pattern p.value n) (bound g.value (n + variables_in (bound_as_pattern p.value n)))
bound-BindAs f p g n = ap (λ t. bound t n) (sym (code.rolls-BindAs f p g)) ∙ ap (λ g. g n) (fold-roll-Tree (Around form.BoundPart) (Around form.BoundPattern) (Around form.BoundTree) bound_member bound_pattern bound_tree (Tree-F.BindAs f p g))

pub bound-Reduce : (f : Box Tree Global) (p : Box Pattern Global) (g : Box Tree Global) (h : Box Tree Global) (n : ℕ) → bound (code.Reduce f p g h) n ≡ form.reduce (bound f.value n) (bound_as_pattern p.value n) (bound g.value n) (bound h.value (n + variables_in (bound_as_pattern p.value n)))
bound-Reduce f p g h n = ap (λ t. bound t n) (sym (code.rolls-Reduce f p g h)) ∙ ap (λ g. g n) (fold-roll-Tree (Around form.BoundPart) (Around form.BoundPattern) (Around form.BoundTree) bound_member bound_pattern bound_tree (Tree-F.Reduce f p g h))

pub bound-Foreach : (f : Box Tree Global) (p : Box Pattern Global) (g : Box Tree Global) (h : Box Tree Global) (i : Box Tree Global) (n : ℕ) → bound (code.Foreach f p g h i) n ≡ form.foreach (bound f.value n) (bound_as_pattern p.value n) (bound g.value n) (bound h.value (n + variables_in (bound_as_pattern p.value n))) (bound i.value (n + variables_in (bound_as_pattern p.value n)))
bound-Foreach f p g h i n = ap (λ t. bound t n) (sym (code.rolls-Foreach f p g h i)) ∙ ap (λ g. g n) (fold-roll-Tree (Around form.BoundPart) (Around form.BoundPattern) (Around form.BoundTree) bound_member bound_pattern bound_tree (Tree-F.Foreach f p g h i))

pub bound-Define : (f : Box (Function Tree) Global) (g : Box Tree Global) (n : ℕ) → bound (code.Define f g) n ≡ form.define (text_of f.value.name) (map text_of f.value.parameters.items) (bound f.value.body (suc n + length f.value.parameters.items)) (bound g.value (suc n))
bound-Define f g n = ap (λ t. bound t n) (sym (code.rolls-Define f g)) ∙ ap (λ g. g n) (fold-roll-Tree (Around form.BoundPart) (Around form.BoundPattern) (Around form.BoundTree) bound_member bound_pattern bound_tree (Tree-F.Define f g))

pub bound-Call : (x : Name) (ts : Vec Tree Global) (n : ℕ) → bound (code.Call x ts) n ≡ form.call (name_of x) (function_at x (length ts.items) n) (bound_trees (map bound ts.items) n)
bound-Call x ts n = ap (λ t. bound t n) (sym (code.rolls-Call x ts)) ∙ ap (λ g. g n) (fold-roll-Tree (Around form.BoundPart) (Around form.BoundPattern) (Around form.BoundTree) bound_member bound_pattern bound_tree (Tree-F.Call x ts)) ∙ ap (λ k. form.call (name_of x) (function_at x k n) (bound_trees (map bound ts.items) n)) (length-map ts.items bound)

pub bound-PreludeCall : (x : Name) (ts : Vec Tree Global) (n : ℕ) → bound (code.PreludeCall x ts) n ≡ form.prelude_call (name_of x) (function_at x (length ts.items) n) (bound_trees (map bound ts.items) n)
bound-PreludeCall x ts n = ap (λ t. bound t n) (sym (code.rolls-PreludeCall x ts)) ∙ ap (λ g. g n) (fold-roll-Tree (Around form.BoundPart) (Around form.BoundPattern) (Around form.BoundTree) bound_member bound_pattern bound_tree (Tree-F.PreludeCall x ts)) ∙ ap (λ k. form.prelude_call (name_of x) (function_at x k n) (bound_trees (map bound ts.items) n)) (length-map ts.items bound)

pub bound-Update : (m : Modify) (ts : Box (List Tree) Global) (n : ℕ) → bound (code.Update m ts) n ≡ form.prelude_call (name_of m.name) (function_at m.name (length ts.value) n) (bound_trees (map bound ts.value) n)
bound-Update m ts n = ap (λ t. bound t n) (sym (code.rolls-Update m ts)) ∙ ap (λ g. g n) (fold-roll-Tree (Around form.BoundPart) (Around form.BoundPattern) (Around form.BoundTree) bound_member bound_pattern bound_tree (Tree-F.Update m ts)) ∙ ap (λ k. form.prelude_call (name_of m.name) (function_at m.name k n) (bound_trees (map bound ts.value) n)) (length-map ts.value bound)

-- ---- patterns

pub bound-Whole : (x : String Global) (n : ℕ) → bound_as_pattern (pattern.Whole x) n ≡ form.whole (text_of x)
bound-Whole x n = ap (λ t. bound_as_pattern t n) (sym (pattern.rolls-Whole x)) ∙ ap (λ g. g n) (fold-roll-Pattern (Around form.BoundPart) (Around form.BoundPattern) (Around form.BoundTree) bound_member bound_pattern bound_tree (Pattern-F.Whole x))

pub bound-Items : (ps : Vec Pattern Global) (n : ℕ) → bound_as_pattern (pattern.Items ps) n ≡ form.items (bound_patterns (map bound_as_pattern ps.items) n)
bound-Items ps n = ap (λ t. bound_as_pattern t n) (sym (pattern.rolls-Items ps)) ∙ ap (λ g. g n) (fold-roll-Pattern (Around form.BoundPart) (Around form.BoundPattern) (Around form.BoundTree) bound_member bound_pattern bound_tree (Pattern-F.Items ps))

pub bound-Members : (ps : Vec Member Global) (n : ℕ) → bound_as_pattern (pattern.Members ps) n ≡ form.members (bound_parts (map bound_as_part ps.items) n)
bound-Members ps n = ap (λ t. bound_as_pattern t n) (sym (pattern.rolls-Members ps)) ∙ ap (λ g. g n) (fold-roll-Pattern (Around form.BoundPart) (Around form.BoundPattern) (Around form.BoundTree) bound_member bound_pattern bound_tree (Pattern-F.Members ps))

pub bound-Keyed : (f : Box Tree Global) (p : Pattern) (n : ℕ) → bound_as_part (member.Keyed f p) n ≡ form.keyed (bound f.value n) (bound_as_pattern p n)
bound-Keyed f p n = ap (λ t. bound_as_part t n) (sym (member.rolls-Keyed f p)) ∙ ap (λ g. g n) (fold-roll-Member (Around form.BoundPart) (Around form.BoundPattern) (Around form.BoundTree) bound_member bound_pattern bound_tree (Member-F.Keyed f p))
