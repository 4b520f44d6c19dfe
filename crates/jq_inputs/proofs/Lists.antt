-- Lists of one item, of two, and of more.
use Rattle.std.proofs.Common.{◌≡◌, ◌≤◌, ◌<◌, List, [], ◌∷◌, length, get_or, map, false, refl, arith}
use Rattle.jq_tree.specs.Tree.{Name, Tree, trees_of}
use Rattle.jq_inputs.specs.declared.hidden.Hidden.{Hidden}
use Rattle.jq_inputs.specs.private.Walk.{count_call, count_trees, once_call}

pub one_item : {A : Type 0} (xs : List A) (x : A) → 1 ≤ length xs → length xs < 2 → x ≡ get_or xs 0 x → xs ≡ x ∷ []
one_item [] x a b e = absurd (omega arith)
one_item (y ∷ []) x a b e = rw e refl
one_item (y ∷ (z ∷ zs)) x a b e = absurd (omega arith)

pub two_items : {A : Type 0} (xs : List A) (x y : A) → 2 ≤ length xs → length xs < 3 → x ≡ get_or xs 0 x → y ≡ get_or xs 1 y → xs ≡ x ∷ (y ∷ [])
two_items [] x y a b e f = absurd (omega arith)
two_items (v ∷ []) x y a b e f = absurd (omega arith)
two_items (v ∷ (w ∷ [])) x y a b e f = rw (e, f) refl
two_items (v ∷ (w ∷ (u ∷ us))) x y a b e f = absurd (omega arith)

pub many_counted : {A : Type 0} (h : Hidden) (n : Name) (f : A → Tree) (xs : List A) → 3 ≤ length xs → count_call h n (trees_of (map f xs)) ≡ count_trees h (trees_of (map f xs))
many_counted h n f [] a = absurd (omega arith)
many_counted h n f (x ∷ xs) a = refl

pub many_often : {A : Type 0} (h : Hidden) (n : Name) (f : A → Tree) (xs : List A) → 3 ≤ length xs → once_call h n (trees_of (map f xs)) ≡ false
many_often h n f [] a = absurd (omega arith)
many_often h n f (x ∷ []) a = absurd (omega arith)
many_often h n f (x ∷ (y ∷ [])) a = absurd (omega arith)
many_often h n f (x ∷ (y ∷ (z ∷ zs))) a = refl
