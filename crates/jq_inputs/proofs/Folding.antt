-- The test finds the filters that fold their inputs.
use Rattle.std.proofs.Common.{◌≡◌, List, ◌∷◌, ◌&&◌, codes, length, ap, sym, subst, refl, Decides}
use Rattle.std.proofs.lemmas.Bool.Decides.{Decides-like, Decides-and}
use Rattle.jq_tree.specs.Tree.{Name, Tree, no_trees, Pattern}
use Rattle.jq_tree.specs.Tree as tree
use Rattle.jq_tree.specs.Names.{Scope, to_function}
use Rattle.jq_tree.specs.Inputs.{inputs, IsOuter, Single, Folds, by_reduce, by_foreach, FoldShape, fold_alone, fold_piped, fold_after}
use Rattle.jq_inputs.specs.declared.hidden.Hidden.{Hidden}
use Rattle.jq_inputs.specs.private.Hidden.{hiding, is_inputs}
use Rattle.jq_inputs.specs.private.Walk.{single_in, is_inputs_call, folds, has_fold_shape}
use Rattle.jq_inputs.proofs.Placing.{never, known-Decides, single-Decides}
use Rattle.jq_inputs.proofs.Tracking.{Tracks, hiding-Tracks}

abbrev IsInputs : Scope → Tree → Type 0
IsInputs own t = (t ≡ tree.call inputs no_trees) × IsOuter own inputs 0

call_name : {m n : Name} → tree.call m no_trees ≡ tree.call n no_trees → m ≡ n
call_name e = cc

inputs-Decides : (t : Tree) {own : Scope} {h : Hidden} → Tracks own h → Decides (is_inputs_call h t) (IsInputs own t)
inputs-Decides (tree.call n no_trees) {own} {h} k =
    Decides-like (is_inputs h n) (λ p. (ap (λ m. tree.call m no_trees) p.0, p.1)) (λ p. (call_name p.0, p.1)) (known-Decides (codes "inputs") n 0 own h.inputs k.inputs)
inputs-Decides t k = never (λ p. absurd (cc p.0))

from_reduce : {own : Scope} {p : Pattern} {f g i : Tree} → Folds own (tree.reduce f p g i) → IsInputs own f × Single own g
from_reduce (by_reduce o s) = ((refl, o), s)

to_reduce : {own : Scope} {p : Pattern} {f g i : Tree} → IsInputs own f × Single own g → Folds own (tree.reduce f p g i)
to_reduce {own} {p} {f} {g} {i} ((e, o), s) = subst (λ x. Folds own (tree.reduce x p g i)) (sym e) (by_reduce o s)

from_foreach : {own : Scope} {p : Pattern} {f g i j : Tree} → Folds own (tree.foreach f p g i j) → IsInputs own f × Single own g
from_foreach (by_foreach o s) = ((refl, o), s)

to_foreach : {own : Scope} {p : Pattern} {f g i j : Tree} → IsInputs own f × Single own g → Folds own (tree.foreach f p g i j)
to_foreach {own} {p} {f} {g} {i} {j} ((e, o), s) = subst (λ x. Folds own (tree.foreach x p g i j)) (sym e) (by_foreach o s)

abbrev IsFold : Tree → Type 0
IsFold (tree.reduce f p g i) = Unit {0}
IsFold (tree.foreach f p g i j) = Unit {0}
IsFold t = ⊥

has_form : {own : Scope} {t : Tree} → Folds own t → IsFold t
has_form (by_reduce o s) = tt
has_form (by_foreach o s) = tt

pub folds-Decides : (t : Tree) {own : Scope} {h : Hidden} → Tracks own h → Decides (folds h t) (Folds own t)
folds-Decides (tree.reduce f p g i) {own} {h} k = Decides-like (is_inputs_call h f && single_in h g) to_reduce from_reduce (Decides-and _ _ (inputs-Decides f k) (single-Decides g k))
folds-Decides (tree.foreach f p g i j) {own} {h} k = Decides-like (is_inputs_call h f && single_in h g) to_foreach from_foreach (Decides-and _ _ (inputs-Decides f k) (single-Decides g k))
folds-Decides t k = never (λ o. has_form o)

abbrev IsOther : Tree → Type 0
IsOther (tree.pipe f g) = ⊥
IsOther (tree.define n ps f g) = ⊥
IsOther t = Unit {0}

alone : {own : Scope} {t : Tree} → IsOther t → FoldShape own t → Folds own t
alone i (fold_alone o) = o
alone i (fold_piped o) = absurd i
alone i (fold_after s) = absurd i

from_pipe : {own : Scope} {f g : Tree} → FoldShape own (tree.pipe f g) → Folds own f
from_pipe (fold_alone o) = absurd (has_form o)
from_pipe (fold_piped o) = o

from_define : {own : Scope} {n : Name} {ps : List Name} {f g : Tree} → FoldShape own (tree.define n ps f g) → FoldShape (to_function n (length ps) ∷ own) g
from_define (fold_alone o) = absurd (has_form o)
from_define (fold_after s) = s

pub shape-Decides : (t : Tree) {own : Scope} {h : Hidden} → Tracks own h → Decides (has_fold_shape h t) (FoldShape own t)
shape-Decides (tree.pipe f g) {own} {h} k = Decides-like (folds h f) fold_piped from_pipe (folds-Decides f k)
shape-Decides (tree.define n ps f g) {own} {h} k =
    Decides-like (has_fold_shape (hiding (to_function n (length ps)) h) g) fold_after from_define (shape-Decides g (hiding-Tracks (to_function n (length ps)) k))
shape-Decides t {own} {h} k = Decides-like (folds h t) fold_alone (alone tt) (folds-Decides t k)
