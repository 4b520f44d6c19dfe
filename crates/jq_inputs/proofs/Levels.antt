-- The definition's tree of a tree with entries, pieces or a function in it.
use Rattle.std.proofs.Common.{◌≡◌, ◌∙◌, ℕ, suc, List, [], ◌∷◌, ◌||◌, Vec, Box, String, map, length, false, ◌==◌, ap, sym, refl}
use Rattle.std.proofs.lemmas.List.{length-map}
use Rattle.std.specs.declared.alloc.Global.{Global}
use Rattle.jq_tree.specs.Tree as t
use Rattle.jq_tree.specs.Names.{to_function}
use Rattle.jv_data.specs.Text.{text_of}
use Rattle.jq_ast.specs.Named.{named, name_of, pieces_of, named_member, named_pattern, named_tree}
use Rattle.jq_ast.specs.declared.names.Modify.{Modify}
use Rattle.jq_ast.specs.declared.names.Name.{Name}
use Rattle.jq_ast.specs.declared.tree.Function.{Function}
use Rattle.jq_ast.specs.declared.tree.Piece.{Piece}
use Rattle.jq_ast.specs.declared.tree.Tree.{Tree}
use Rattle.jq_ast.specs.declared.tree.Tree as tree
use Rattle.jq_ast.specs.declared.tree.Tree.TheVariants.{rolls-Text}
use Rattle.jq_ast.specs.declared.tree.Member.TheFolds.{fold-roll-Tree}
use Rattle.jq_ast.specs.declared.tree.Member.TheOpen.{Tree-F}
use Rattle.jq_ast.proofs.shared.Forms.{named-Call, named-Define, named-PreludeCall, named-Update}
use Rattle.jq_inputs.specs.declared.hidden.Hidden.{Hidden}
use Rattle.jq_inputs.specs.private.Pieces.{pieces_in}
use Rattle.jq_inputs.specs.private.Hidden.{nothing_hidden, hiding, is_halt}
use Rattle.jq_inputs.specs.private.Walk.{count_in, count_pieces, once_in, is_inputs_call, has_fold_shape}
use Rattle.jq_inputs.specs.private.Halts.{halts_in, halts_in_trees, halts_in_pieces}

fused_pieces : (h : Hidden) (M : Piece Tree → Piece t.Tree) → ((p : Piece Tree) → (M p).tree ≡ named p.tree) → (ps : List (Piece Tree)) (last : String Global)
    → count_pieces h (pieces_of (map M ps) last) ≡ count_pieces h (pieces_in ps)
fused_pieces h M a [] last = refl
fused_pieces h M a (p ∷ ps) last = rw (a p, fused_pieces h M a ps last) refl

pub count-Text : (h : Hidden) (f : Name) (ps : Vec (Piece Tree) Global) (last : String Global) → count_in h (named (tree.Text f ps last)) ≡ count_pieces h (pieces_in ps.items)
count-Text h f ps last = ap (count_in h) (ap named (sym (rolls-Text f ps last)) ∙ fold-roll-Tree t.Part t.Pattern t.Tree named_member named_pattern named_tree (Tree-F.Text f ps last))
    ∙ fused_pieces h _ (λ p. refl) ps.items last

fused_halts : (h : Hidden) (M : Piece Tree → Piece t.Tree) → ((p : Piece Tree) → (M p).tree ≡ named p.tree) → (ps : List (Piece Tree)) (last : String Global)
    → halts_in_pieces h (pieces_of (map M ps) last) ≡ halts_in_pieces h (pieces_in ps)
fused_halts h M a [] last = refl
fused_halts h M a (p ∷ ps) last = rw (a p, fused_halts h M a ps last) refl

pub halts-Text : (h : Hidden) (f : Name) (ps : Vec (Piece Tree) Global) (last : String Global) → halts_in h (named (tree.Text f ps last)) ≡ halts_in_pieces h (pieces_in ps.items)
halts-Text h f ps last = ap (halts_in h) (ap named (sym (rolls-Text f ps last)) ∙ fold-roll-Tree t.Part t.Pattern t.Tree named_member named_pattern named_tree (Tree-F.Text f ps last))
    ∙ fused_halts h _ (λ p. refl) ps.items last

counted : (ts : List Tree) → t.trees_count (t.trees_of (map named ts)) ≡ length ts
counted [] = refl
counted (x ∷ xs) = ap suc (counted xs)

pub halts-Call : (h : Hidden) (n : Name) (ts : Vec Tree Global)
    → halts_in h (named (tree.Call n ts)) ≡ (is_halt h (to_function (name_of n) (length ts.items)) || halts_in_trees h (t.trees_of (map named ts.items)))
halts-Call h n ts = ap (halts_in h) (named-Call n ts) ∙ ap (λ (k : ℕ). is_halt h (to_function (name_of n) k) || halts_in_trees h (t.trees_of (map named ts.items))) (counted ts.items)

pub halts-PreludeCall : (h : Hidden) (n : Name) (ts : Vec Tree Global)
    → halts_in h (named (tree.PreludeCall n ts)) ≡ (is_halt nothing_hidden (to_function (name_of n) (length ts.items)) || halts_in_trees h (t.trees_of (map named ts.items)))
halts-PreludeCall h n ts = ap (halts_in h) (named-PreludeCall n ts)
    ∙ ap (λ (k : ℕ). is_halt nothing_hidden (to_function (name_of n) k) || halts_in_trees h (t.trees_of (map named ts.items))) (counted ts.items)

-- `_modify` does not halt
pub halts-Update : (h : Hidden) (m : Modify) (ts : Box (List Tree) Global) → halts_in h (named (tree.Update m ts)) ≡ halts_in_trees h (t.trees_of (map named ts.value))
halts-Update h m ts = ap (halts_in h) (named-Update m ts)
    ∙ ap (λ (n : t.Name). is_halt nothing_hidden (to_function n (t.trees_count (t.trees_of (map named ts.value)))) || halts_in_trees h (t.trees_of (map named ts.value))) m.same

pub once-Define : (h : Hidden) (f : Box (Function Tree) Global) (g : Box Tree Global)
    → once_in h (named (tree.Define f g)) ≡ once_in (hiding (to_function (text_of f.value.name) (length f.value.parameters.items)) h) (named g.value)
once-Define h f g = ap (once_in h) (named-Define f g)
    ∙ ap (λ k. once_in (hiding (to_function (text_of f.value.name) k) h) (named g.value)) (length-map f.value.parameters.items text_of)

pub shape-Define : (h : Hidden) (f : Box (Function Tree) Global) (g : Box Tree Global)
    → has_fold_shape h (named (tree.Define f g)) ≡ has_fold_shape (hiding (to_function (text_of f.value.name) (length f.value.parameters.items)) h) (named g.value)
shape-Define h f g = ap (has_fold_shape h) (named-Define f g)
    ∙ ap (λ k. has_fold_shape (hiding (to_function (text_of f.value.name) k) h) (named g.value)) (length-map f.value.parameters.items text_of)

with_arguments : (h : Hidden) (n : t.Name) (xs : List Tree) → (length xs == 0) ≡ false → is_inputs_call h (t.call n (t.trees_of (map named xs))) ≡ false
with_arguments h n [] e = absurd (cc)
with_arguments h n (x ∷ xs) e = refl

pub call-arguments : (h : Hidden) (n : Name) (ts : Vec Tree Global) → (length ts.items == 0) ≡ false → is_inputs_call h (named (tree.Call n ts)) ≡ false
call-arguments h n ts e = ap (is_inputs_call h) (named-Call n ts) ∙ with_arguments h (name_of n) ts.items e
