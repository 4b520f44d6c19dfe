-- The waiting parts of the walk over the names of a program.
use Rattle.std.proofs.Common.{◌≡◌, ◌∙◌, ◌+◌, ◌==◌, ℕ, suc, List, [], ◌∷◌, ◌++◌, Bool, true, false, if◌then◌else◌, length, map, Box, Vec, String, string_bytes, Global, ap, sym, refl, arith, append_assoc}
use Rattle.std.proofs.lemmas.List.{append-nil}
use Rattle.std.proofs.lemmas.Bool.Decides.{nat_tests}
use Rattle.std.specs.Str.{IsUtf8, chars}
use Rattle.std.proofs.lemmas.Str.{IsUtf8-string_bytes, encodes-chars}
use lib.Utf8.{encodes}
use Rattle.jv_data.specs.Text.{text_of}
use Rattle.jq_tree.specs.BoundTree.{bound_count}
use Rattle.jq_tree.specs.BoundTree as form
use Rattle.jq_tree.specs.Binders.{Use, in_text_order, uses, uses_entries, uses_pieces, uses_trees}
use Rattle.jq_ast.specs.Bound.{bound, bound_pieces, bound_trees, function_at}
use Rattle.jq_resolver.specs.private.BoundParts.{bound_as_pattern}
use Rattle.jq_ast.specs.Named.{name_of}
use Rattle.jq_tree.specs.Names.{to_function}
use Rattle.jq_ast.specs.declared.names.Modify.{Modify}
use Rattle.jq_ast.specs.declared.names.Name.{Name}
use Rattle.jq_ast.specs.declared.tree.Entry.{Entry}
use Rattle.jq_ast.specs.declared.tree.Piece.{Piece}
use Rattle.jq_ast.specs.declared.tree.Tree.{Tree}
use Rattle.jq_ast.specs.declared.tree.Tree.TheVariants as code
use Rattle.jq_ast.specs.declared.tree.Pattern.TheVariants as pattern
use Rattle.jq_resolver.specs.private.Resolved.{entries_at}
use Rattle.jq_resolver.specs.private.Visits.{tree_visits, entries_visits, pieces_visits}
use Rattle.jq_resolver.specs.private.Waiting.{pieces_at, visits_of, visits_waiting, use_at, uses_of, uses_waiting}
use Rattle.jq_resolver.specs.declared.uses.Sort.TheVariants as sort
use Rattle.jq_resolver.specs.declared.uses.Waiting.{Waiting}
use Rattle.jq_resolver.proofs.Levels as level
use Rattle.jq_resolver.proofs.Levels.{bound_piece}

-- ---- one more part

pub uses_push : (ws : List Waiting) (w : Waiting) → uses_waiting (ws ++ w ∷ []) ≡ uses_of w.part w.around ++ uses_waiting ws
uses_push [] w = sym (append-nil (uses_of w.part w.around))
uses_push (v ∷ ws) w =
    let below = uses_of v.part v.around in
    ap (λ us. us ++ below) (uses_push ws w) ∙ append_assoc (uses_of w.part w.around) (uses_waiting ws) below

pub visits_push : (ws : List Waiting) (w : Waiting) → visits_waiting (ws ++ w ∷ []) ≡ visits_of w.part w.around + visits_waiting ws
visits_push [] w = refl
visits_push (v ∷ ws) w = let later : visits_waiting (ws ++ w ∷ []) ≡ visits_of w.part w.around + visits_waiting ws = visits_push ws w in omega arith

-- ---- the parts of trees with lists in them

pieces_used : (ps : List (Piece Tree)) (last : String Global) (n : ℕ) → uses_pieces (bound_pieces (map bound_piece ps) last n) ≡ uses_pieces (pieces_at ps n)
pieces_used [] last n = refl
pieces_used (p ∷ ps) last n = ap (λ us. uses (bound p.tree n) ++ us) (pieces_used ps last n)

pieces_stepped : (ps : List (Piece Tree)) (last : String Global) (n : ℕ) → pieces_visits (bound_pieces (map bound_piece ps) last n) ≡ pieces_visits (pieces_at ps n)
pieces_stepped [] last n = refl
pieces_stepped (p ∷ ps) last n = ap (λ k. suc (tree_visits (bound p.tree n) + k)) (pieces_stepped ps last n)

pub text_used : (f : Name) (ps : Vec (Piece Tree) Global) (last : String Global) (n : ℕ) → uses (bound (code.Text f ps last) n) ≡ use_at sort.Format f n ∷ uses_pieces (pieces_at ps.items n)
text_used f ps last n = ap uses (level.bound-Text f ps last n) ∙ ap (λ us. use_at sort.Format f n ∷ us) (pieces_used ps.items last n)

pub text_stepped : (f : Name) (ps : Vec (Piece Tree) Global) (last : String Global) (n : ℕ) → tree_visits (bound (code.Text f ps last) n) ≡ suc (suc (pieces_visits (pieces_at ps.items n)))
text_stepped f ps last n = ap tree_visits (level.bound-Text f ps last n) ∙ ap (λ k. suc (suc k)) (pieces_stepped ps.items last n)

pub object_used : (es : Vec (Entry Tree) Global) (n : ℕ) → uses (bound (code.Object es) n) ≡ uses_entries (entries_at es.items n)
object_used es n = ap uses (level.bound-Object es n)

pub object_stepped : (es : Vec (Entry Tree) Global) (n : ℕ) → tree_visits (bound (code.Object es) n) ≡ suc (entries_visits (entries_at es.items n))
object_stepped es n = ap tree_visits (level.bound-Object es n)

count_bound : (ts : List Tree) (n : ℕ) → bound_count (bound_trees (map bound ts) n) ≡ length ts
count_bound [] n = refl
count_bound (t ∷ ts) n = ap suc (count_bound ts n)

pub call_used : (x : Name) (ts : Vec Tree Global) (n : ℕ) → uses (bound (code.Call x ts) n) ≡ use_at (sort.Function (length ts.items)) x n ∷ uses_trees (bound_trees (map bound ts.items) n)
call_used x ts n =
    ap uses (level.bound-Call x ts n) ∙ ap (λ k. (to_function (name_of x) k, function_at x (length ts.items) n) ∷ uses_trees (bound_trees (map bound ts.items) n)) (count_bound ts.items n)

pub prelude_call_used : (x : Name) (ts : Vec Tree Global) (n : ℕ) → uses (bound (code.PreludeCall x ts) n) ≡ use_at (sort.Function (length ts.items)) x n ∷ uses_trees (bound_trees (map bound ts.items) n)
prelude_call_used x ts n =
    ap uses (level.bound-PreludeCall x ts n) ∙ ap (λ k. (to_function (name_of x) k, function_at x (length ts.items) n) ∷ uses_trees (bound_trees (map bound ts.items) n)) (count_bound ts.items n)

pub update_used : (m : Modify) (ts : Box (List Tree) Global) (n : ℕ) → uses (bound (code.Update m ts) n) ≡ use_at (sort.Function (length ts.value)) m.name n ∷ uses_trees (bound_trees (map bound ts.value) n)
update_used m ts n =
    ap uses (level.bound-Update m ts n) ∙ ap (λ k. (to_function (name_of m.name) k, function_at m.name (length ts.value) n) ∷ uses_trees (bound_trees (map bound ts.value) n)) (count_bound ts.value n)

-- ---- the variable that no filter can name

no_bytes : (bs : List ℕ) → IsUtf8 bs → chars bs ≡ [] → bs ≡ []
no_bytes bs u e = sym (encodes-chars bs u) ∙ ap encodes e

order_of : (cs : List ℕ) (b : Bool) (source body : List Use) → (b ≡ true → cs ≡ []) → (cs ≡ [] → b ≡ true)
    → in_text_order (form.whole cs) source body ≡ (if b then body ++ source else source ++ body)
order_of [] true source body f g = refl
order_of [] false source body f g = let e : false ≡ true = g refl in cc
order_of (c ∷ cs) true source body f g = let e : c ∷ cs ≡ [] = f refl in cc
order_of (c ∷ cs) false source body f g = refl

empty_length : (bs : List ℕ) → (length bs == 0) ≡ true → bs ≡ []
empty_length [] h = refl
empty_length (b ∷ bs) h = let e : length (b ∷ bs) ≡ 0 = grind (arith, nat_tests) in absurd (omega arith)

pub unnamed_order : (x : String Global) (b : Bool) (n : ℕ) (source body : List Use) → b ≡ (length (string_bytes x) == 0)
    → in_text_order (bound_as_pattern (pattern.Whole x) n) source body ≡ (if b then body ++ source else source ++ body)
unfolding chars
unnamed_order x b n source body e =
    let bs = string_bytes x in
    ap (λ p. in_text_order p source body) (level.bound-Whole x n)
    ∙ order_of (text_of x) b source body (λ h. ap chars (empty_length bs (sym e ∙ h)))
    (λ h. e ∙ ap (λ z. length z == 0) (no_bytes bs (IsUtf8-string_bytes x) h))
