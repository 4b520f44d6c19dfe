-- The definition's tree of each form, by its parts.
use Rattle.std.proofs.Common.{◌≡◌, ◌∙◌, Bool, List, [], ◌∷◌, map, Vec, String, Global, Box, ap, sym, refl}
use Rattle.jv_data.specs.Text.{text_of}
use Rattle.jq_tree.specs.Tree as tree
use Rattle.jq_ast.specs.Leaves.{key_of, operator_of}
use Rattle.jq_ast.specs.Named.{named, named_as_part, named_as_pattern, name_of, pieces_of, entry_of, named_entry, named_piece, named_member, named_pattern, named_tree}
use Rattle.jq_ast.specs.declared.leaves.Key.{Key}
use Rattle.jq_ast.specs.declared.names.Modify.{Modify}
use Rattle.jq_ast.specs.declared.names.Name.{Name}
use Rattle.jq_ast.specs.declared.operators.Operator.{Operator}
use Rattle.jq_ast.specs.declared.tree.Entry.{Entry}
use Rattle.jq_ast.specs.declared.tree.Entry.TheVariants as entry
use Rattle.jq_ast.specs.declared.tree.Piece.{Piece}
use Rattle.jq_ast.specs.declared.tree.Function.{Function}
use Rattle.jq_ast.specs.declared.tree.Member.{Member}
use Rattle.jq_ast.specs.declared.tree.Member.TheVariants as member
use Rattle.jq_ast.specs.declared.tree.Pattern.{Pattern}
use Rattle.jq_ast.specs.declared.tree.Pattern.TheVariants as pattern
use Rattle.jq_ast.specs.declared.tree.Tree.{Tree}
use Rattle.jq_ast.specs.declared.tree.Tree.TheVariants as code
use Rattle.jq_ast.specs.declared.tree.Member.TheFolds.{fold-roll-Tree, fold-roll-Pattern, fold-roll-Member}
use Rattle.jq_ast.specs.declared.tree.Member.TheOpen.{Tree-F, Pattern-F, Member-F}

-- entries, as the fold sees them
named_entries : (M : Entry Tree → Entry tree.Tree) → ((k : Key) (v : Tree) → entry_of (M (entry.Named k v)) ≡ tree.named (key_of k) (named v))
    → ((k v : Tree) → entry_of (M (entry.Computed k v)) ≡ tree.computed (named k) (named v)) → ((k : Tree) → entry_of (M (entry.Own k)) ≡ tree.own (named k))
    → (es : List (Entry Tree)) → map entry_of (map M es) ≡ map named_entry es
named_entries M a b c [] = refl
named_entries M a b c (entry.Named k v ∷ es) = ap (λ x. x ∷ map entry_of (map M es)) (a k v) ∙ ap (λ l. tree.named (key_of k) (named v) ∷ l) (named_entries M a b c es)
named_entries M a b c (entry.Computed k v ∷ es) = ap (λ x. x ∷ map entry_of (map M es)) (b k v) ∙ ap (λ l. tree.computed (named k) (named v) ∷ l) (named_entries M a b c es)
named_entries M a b c (entry.Own k ∷ es) = ap (λ x. x ∷ map entry_of (map M es)) (c k) ∙ ap (λ l. tree.own (named k) ∷ l) (named_entries M a b c es)

-- ---- trees

pub named-Text : (f : Name) (ps : Vec (Piece Tree) Global) (last : String Global) → named (code.Text f ps last) ≡ tree.text (name_of f) (pieces_of (map named_piece ps.items) last)
named-Text f ps last = ap named (sym (code.rolls-Text f ps last)) ∙ fold-roll-Tree tree.Part tree.Pattern tree.Tree named_member named_pattern named_tree (Tree-F.Text f ps last)

pub named-Field : (f : Box Tree Global) (key : Key) (mark : Bool) → named (code.Field f key mark) ≡ tree.field (named f.value) (key_of key) mark
named-Field f key mark = ap named (sym (code.rolls-Field f key mark)) ∙ fold-roll-Tree tree.Part tree.Pattern tree.Tree named_member named_pattern named_tree (Tree-F.Field f key mark)

pub named-Index : (f : Box Tree Global) (g : Box Tree Global) (mark : Bool) → named (code.Index f g mark) ≡ tree.index (named f.value) (named g.value) mark
named-Index f g mark = ap named (sym (code.rolls-Index f g mark)) ∙ fold-roll-Tree tree.Part tree.Pattern tree.Tree named_member named_pattern named_tree (Tree-F.Index f g mark)

pub named-Slice : (f : Box Tree Global) (g : Box Tree Global) (h : Box Tree Global) (mark : Bool) → named (code.Slice f g h mark) ≡ tree.slice (named f.value) (named g.value) (named h.value) mark
named-Slice f g h mark = ap named (sym (code.rolls-Slice f g h mark)) ∙ fold-roll-Tree tree.Part tree.Pattern tree.Tree named_member named_pattern named_tree (Tree-F.Slice f g h mark)

pub named-Iterate : (f : Box Tree Global) (mark : Bool) → named (code.Iterate f mark) ≡ tree.iterate (named f.value) mark
named-Iterate f mark = ap named (sym (code.rolls-Iterate f mark)) ∙ fold-roll-Tree tree.Part tree.Pattern tree.Tree named_member named_pattern named_tree (Tree-F.Iterate f mark)

pub named-Pipe : (f : Box Tree Global) (g : Box Tree Global) → named (code.Pipe f g) ≡ tree.pipe (named f.value) (named g.value)
named-Pipe f g = ap named (sym (code.rolls-Pipe f g)) ∙ fold-roll-Tree tree.Part tree.Pattern tree.Tree named_member named_pattern named_tree (Tree-F.Pipe f g)

pub named-Comma : (f : Box Tree Global) (g : Box Tree Global) → named (code.Comma f g) ≡ tree.comma (named f.value) (named g.value)
named-Comma f g = ap named (sym (code.rolls-Comma f g)) ∙ fold-roll-Tree tree.Part tree.Pattern tree.Tree named_member named_pattern named_tree (Tree-F.Comma f g)

pub named-Binary : (op : Operator) (f : Box Tree Global) (g : Box Tree Global) → named (code.Binary op f g) ≡ tree.binary (operator_of op) (named f.value) (named g.value)
named-Binary op f g = ap named (sym (code.rolls-Binary op f g)) ∙ fold-roll-Tree tree.Part tree.Pattern tree.Tree named_member named_pattern named_tree (Tree-F.Binary op f g)

pub named-And : (f : Box Tree Global) (g : Box Tree Global) → named (code.And f g) ≡ tree.conjunction (named f.value) (named g.value)
named-And f g = ap named (sym (code.rolls-And f g)) ∙ fold-roll-Tree tree.Part tree.Pattern tree.Tree named_member named_pattern named_tree (Tree-F.And f g)

pub named-Or : (f : Box Tree Global) (g : Box Tree Global) → named (code.Or f g) ≡ tree.disjunction (named f.value) (named g.value)
named-Or f g = ap named (sym (code.rolls-Or f g)) ∙ fold-roll-Tree tree.Part tree.Pattern tree.Tree named_member named_pattern named_tree (Tree-F.Or f g)

pub named-Alternative : (f : Box Tree Global) (g : Box Tree Global) → named (code.Alternative f g) ≡ tree.alternative (named f.value) (named g.value)
named-Alternative f g = ap named (sym (code.rolls-Alternative f g)) ∙ fold-roll-Tree tree.Part tree.Pattern tree.Tree named_member named_pattern named_tree (Tree-F.Alternative f g)

pub named-Negation : (f : Box Tree Global) → named (code.Negation f) ≡ tree.negation (named f.value)
named-Negation f = ap named (sym (code.rolls-Negation f)) ∙ fold-roll-Tree tree.Part tree.Pattern tree.Tree named_member named_pattern named_tree (Tree-F.Negation f)

pub named-Array : (f : Box Tree Global) → named (code.Array f) ≡ tree.array (named f.value)
named-Array f = ap named (sym (code.rolls-Array f)) ∙ fold-roll-Tree tree.Part tree.Pattern tree.Tree named_member named_pattern named_tree (Tree-F.Array f)

pub named-Object : (es : Vec (Entry Tree) Global) → named (code.Object es) ≡ tree.object (tree.entries_of (map named_entry es.items))
named-Object es = ap named (sym (code.rolls-Object es)) ∙ fold-roll-Tree tree.Part tree.Pattern tree.Tree named_member named_pattern named_tree (Tree-F.Object es) ∙ ap (λ l. tree.object (tree.entries_of l)) (named_entries _ (λ k v. refl) (λ k v. refl) (λ k. refl) es.items)

pub named-Choice : (f : Box Tree Global) (g : Box Tree Global) (h : Box Tree Global) → named (code.Choice f g h) ≡ tree.choice (named f.value) (named g.value) (named h.value)
named-Choice f g h = ap named (sym (code.rolls-Choice f g h)) ∙ fold-roll-Tree tree.Part tree.Pattern tree.Tree named_member named_pattern named_tree (Tree-F.Choice f g h)

pub named-TryCatch : (f : Box Tree Global) (g : Box Tree Global) → named (code.TryCatch f g) ≡ tree.try_catch (named f.value) (named g.value)
named-TryCatch f g = ap named (sym (code.rolls-TryCatch f g)) ∙ fold-roll-Tree tree.Part tree.Pattern tree.Tree named_member named_pattern named_tree (Tree-F.TryCatch f g)

pub named-Label : (x : String Global) (f : Box Tree Global) → named (code.Label x f) ≡ tree.label (text_of x) (named f.value)
named-Label x f = ap named (sym (code.rolls-Label x f)) ∙ fold-roll-Tree tree.Part tree.Pattern tree.Tree named_member named_pattern named_tree (Tree-F.Label x f)

pub named-Break : (x : Name) → named (code.Break x) ≡ tree.break (name_of x)
named-Break x = ap named (sym (code.rolls-Break x)) ∙ fold-roll-Tree tree.Part tree.Pattern tree.Tree named_member named_pattern named_tree (Tree-F.Break x)

pub named-BindAs : (f : Box Tree Global) (p : Box Pattern Global) (g : Box Tree Global) → named (code.BindAs f p g) ≡ tree.bind_as (named f.value) (named_as_pattern p.value) (named g.value)
named-BindAs f p g = ap named (sym (code.rolls-BindAs f p g)) ∙ fold-roll-Tree tree.Part tree.Pattern tree.Tree named_member named_pattern named_tree (Tree-F.BindAs f p g)

pub named-Reduce : (f : Box Tree Global) (p : Box Pattern Global) (g : Box Tree Global) (h : Box Tree Global) → named (code.Reduce f p g h) ≡ tree.reduce (named f.value) (named_as_pattern p.value) (named g.value) (named h.value)
named-Reduce f p g h = ap named (sym (code.rolls-Reduce f p g h)) ∙ fold-roll-Tree tree.Part tree.Pattern tree.Tree named_member named_pattern named_tree (Tree-F.Reduce f p g h)

pub named-Foreach : (f : Box Tree Global) (p : Box Pattern Global) (g : Box Tree Global) (h : Box Tree Global) (i : Box Tree Global) → named (code.Foreach f p g h i) ≡ tree.foreach (named f.value) (named_as_pattern p.value) (named g.value) (named h.value) (named i.value)
named-Foreach f p g h i = ap named (sym (code.rolls-Foreach f p g h i)) ∙ fold-roll-Tree tree.Part tree.Pattern tree.Tree named_member named_pattern named_tree (Tree-F.Foreach f p g h i)

pub named-Define : (f : Box (Function Tree) Global) (g : Box Tree Global) → named (code.Define f g) ≡ tree.define (text_of f.value.name) (map text_of f.value.parameters.items) (named f.value.body) (named g.value)
named-Define f g = ap named (sym (code.rolls-Define f g)) ∙ fold-roll-Tree tree.Part tree.Pattern tree.Tree named_member named_pattern named_tree (Tree-F.Define f g)

pub named-Call : (x : Name) (ts : Vec Tree Global) → named (code.Call x ts) ≡ tree.call (name_of x) (tree.trees_of (map named ts.items))
named-Call x ts = ap named (sym (code.rolls-Call x ts)) ∙ fold-roll-Tree tree.Part tree.Pattern tree.Tree named_member named_pattern named_tree (Tree-F.Call x ts)

pub named-PreludeCall : (x : Name) (ts : Vec Tree Global) → named (code.PreludeCall x ts) ≡ tree.prelude_call (name_of x) (tree.trees_of (map named ts.items))
named-PreludeCall x ts = ap named (sym (code.rolls-PreludeCall x ts)) ∙ fold-roll-Tree tree.Part tree.Pattern tree.Tree named_member named_pattern named_tree (Tree-F.PreludeCall x ts)

pub named-Update : (m : Modify) (ts : Box (List Tree) Global) → named (code.Update m ts) ≡ tree.prelude_call (name_of m.name) (tree.trees_of (map named ts.value))
named-Update m ts = ap named (sym (code.rolls-Update m ts)) ∙ fold-roll-Tree tree.Part tree.Pattern tree.Tree named_member named_pattern named_tree (Tree-F.Update m ts)

-- ---- patterns

pub named-Whole : (x : String Global) → named_as_pattern (pattern.Whole x) ≡ tree.whole (text_of x)
named-Whole x = ap named_as_pattern (sym (pattern.rolls-Whole x)) ∙ fold-roll-Pattern tree.Part tree.Pattern tree.Tree named_member named_pattern named_tree (Pattern-F.Whole x)

pub named-Items : (ps : Vec Pattern Global) → named_as_pattern (pattern.Items ps) ≡ tree.items (tree.patterns_of (map named_as_pattern ps.items))
named-Items ps = ap named_as_pattern (sym (pattern.rolls-Items ps)) ∙ fold-roll-Pattern tree.Part tree.Pattern tree.Tree named_member named_pattern named_tree (Pattern-F.Items ps)

pub named-Members : (ps : Vec Member Global) → named_as_pattern (pattern.Members ps) ≡ tree.members (tree.parts_of (map named_as_part ps.items))
named-Members ps = ap named_as_pattern (sym (pattern.rolls-Members ps)) ∙ fold-roll-Pattern tree.Part tree.Pattern tree.Tree named_member named_pattern named_tree (Pattern-F.Members ps)

pub named-Keyed : (f : Box Tree Global) (p : Pattern) → named_as_part (member.Keyed f p) ≡ tree.keyed (named f.value) (named_as_pattern p)
named-Keyed f p = ap named_as_part (sym (member.rolls-Keyed f p)) ∙ fold-roll-Member tree.Part tree.Pattern tree.Tree named_member named_pattern named_tree (Member-F.Keyed f p)

pub named-KeyedVariable : (x : String Global) (p : Pattern) → named_as_part (member.KeyedVariable x p) ≡ tree.keyed_variable (text_of x) (named_as_pattern p)
named-KeyedVariable x p = ap named_as_part (sym (member.rolls-KeyedVariable x p)) ∙ fold-roll-Member tree.Part tree.Pattern tree.Tree named_member named_pattern named_tree (Member-F.KeyedVariable x p)
