-- The entries of an object, one after the other.
use Rattle.std.proofs.Common.{◌≡◌, ◌∙◌, ℕ, suc, ◌+◌, ◌≤◌, ◌<◌, List, ◌∷◌, length, get_or, drop, map, ap, sym, subst, arith}
use Rattle.std.proofs.Math.Seq.{drop-cons}
use Rattle.std.proofs.lemmas.List.{drop_all}
use Rattle.jq_tree.specs.Tree.{Entries, entries_of}
use Rattle.jq_ast.specs.declared.tree.Entry.{Entry}
use Rattle.jq_ast.specs.declared.tree.Tree.{Tree}
use Rattle.jq_ast.specs.Named.{named_entry}
use Rattle.jq_inputs.specs.declared.hidden.Hidden.{Hidden}
use Rattle.jq_inputs.specs.declared.surveys.Survey.{Survey}
use Rattle.jq_inputs.specs.private.Surveys.{beside}
use Rattle.jq_inputs.proofs.Beside.{Goes, IsOf, IsOfAll, goes_on, goes-end}

next_entry : (es : List (Entry Tree)) (k : ℕ) (e : Entry Tree) → k < length es → e ≡ get_or es k e → drop k es ≡ e ∷ drop (k + 1) es
next_entry es k e lt i = let j : suc k ≡ k + 1 = omega arith in
    drop-cons es k e lt ∙ (ap (λ x. x ∷ drop (suc k) es) (sym i) ∙ ap (λ n. e ∷ drop n es) j)

pub goes_after : {h : Hidden} {all : Entries} {s f : Survey} (es : List (Entry Tree)) (k : ℕ) (e : Entry Tree) → k < length es → e ≡ get_or es k e → IsOf h (named_entry e) f
    → Goes h all s (entries_of (map named_entry (drop k es))) → Goes h all (beside s f) (entries_of (map named_entry (drop (k + 1) es)))
goes_after {h} {all} {s} {f} es k e lt i o g = goes_on (named_entry e) o (subst (λ l. Goes h all s (entries_of (map named_entry l))) (next_entry es k e lt i) g)

pub goes_all : {h : Hidden} {all : Entries} {s : Survey} (es : List (Entry Tree)) (k : ℕ) → length es ≤ k → Goes h all s (entries_of (map named_entry (drop k es))) → IsOfAll h all s
goes_all {h} {all} {s} es k le g = goes-end (subst (λ l. Goes h all s (entries_of (map named_entry l))) (drop_all k es le) g)
