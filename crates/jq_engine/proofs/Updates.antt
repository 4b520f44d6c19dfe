-- The update of a fold.
use Rattle.std.proofs.Common.{◌≡◌, ◌∙◌, ℕ, List, ◌∷◌, ap}
use Rattle.jq_tree.specs.Tree.{Tree}
use Rattle.jq_meaning.specs.Runs.{Item}
use Rattle.jq_meaning.specs.machine.State.{Scope, Fold, Frame, fold_update, ForkPoint, state, evaluate}

-- it runs in equal scopes, on equal states
pub update_same : {t u : Tree} {p q : Scope} {x y : Item} {h : ℕ} {f : Fold} {k l : List Frame} {fs gs : List ForkPoint} → t ≡ u → p ≡ q → x ≡ y → k ≡ l → fs ≡ gs
    → state (evaluate t p x) (fold_update h f p ∷ k) fs ≡ state (evaluate u q y) (fold_update h f q ∷ l) gs
update_same {t} {u} {p} {q} {x} {y} {h} {f} {k} {l} {fs} {gs} a b c d e =
    ap (λ z. state (evaluate z p x) (fold_update h f p ∷ k) fs) a
    ∙ ap (λ z. state (evaluate u z x) (fold_update h f z ∷ k) fs) b
    ∙ ap (λ z. state (evaluate u q z) (fold_update h f q ∷ k) fs) c
    ∙ ap (λ z. state (evaluate u q y) (fold_update h f q ∷ z) fs) d
    ∙ ap (λ z. state (evaluate u q y) (fold_update h f q ∷ l) z) e
