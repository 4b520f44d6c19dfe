-- Folds over joined lists.
use Rattle.std.proofs.Common.{◌≡◌, ℕ, ◌+◌, ◌<◌, List, [], ◌∷◌, ◌++◌, length, take, get_or, refl, sym, ◌∙◌, ap, ap₂, subst, map, arith, append_assoc, append-nil}
use Rattle.std.proofs.lemmas.List.{map-append}
use Rattle.std.proofs.lemmas.Grind.{take_at_read}
use Rattle.jq_pages.specs.private.Reruns.{IsRun}
use Rattle.jv_data.specs.Value.{Value}
use Rattle.jq_pages.specs.Pieces.{PieceView}
use Rattle.jq_pages.specs.Folds.{Fold, Rises, state_after, pieces_after}

pub state_append : {S : Type 0} (r : Fold S) (s : S) (xs ys : List Value) → state_after r s (xs ++ ys) ≡ state_after r (state_after r s xs) ys
state_append r s [] ys = refl
state_append r s (x ∷ xs) ys = state_append r (r.step s x).1 xs ys

pub pieces_append : {S : Type 0} (r : Fold S) (s : S) (xs ys : List Value) → pieces_after r s (xs ++ ys) ≡ pieces_after r s xs ++ pieces_after r (state_after r s xs) ys
pieces_append r s [] ys = refl
pieces_append r s (x ∷ xs) ys = ap (λ ps. (r.step s x).0 ∷ ps) (pieces_append r (r.step s x).1 xs ys)

-- a reading of a slice up to one more place
pub mapped_more : {A B : Type 0} (f : A → B) (xs : List A) (i : ℕ) (x : A) → i < length xs → x ≡ get_or xs i x → map f (take (i + 1) xs) ≡ map f (take i xs) ++ f x ∷ []
mapped_more f xs i x h e =
    ap (map f) ((take_at_read xs i x h).1 ∙ ap (λ z. take i xs ++ z ∷ []) (sym e)) ∙ map-append f (take i xs) (x ∷ [])

pub state_more : {S : Type 0} (r : Fold S) (s : S) (xs ys : List Value) (x : Value) → ys ≡ xs ++ x ∷ [] → state_after r s ys ≡ (r.step (state_after r s xs) x).1
state_more r s xs ys x e = ap (state_after r s) e ∙ state_append r s xs (x ∷ [])

pub pieces_more : {S : Type 0} (r : Fold S) (s : S) (xs ys : List Value) (x : Value) → ys ≡ xs ++ x ∷ [] → pieces_after r s ys ≡ pieces_after r s xs ++ (r.step (state_after r s xs) x).0 ∷ []
pieces_more r s xs ys x e = ap (pieces_after r s) e ∙ pieces_append r s xs (x ∷ [])

pub rises_more : (a b c i j : ℕ) → Rises a b i → Rises b c j → Rises a c (i + j)
rises_more a b c i j p q = record { low = omega arith; high = omega arith }

pub map_snoc : {A B : Type 0} (f : A → B) (xs ys : List A) (x : A) → ys ≡ xs ++ x ∷ [] → map f ys ≡ map f xs ++ f x ∷ []
map_snoc f xs ys x e = ap (map f) e ∙ map-append f xs (x ∷ [])

-- one run after another
pub run_join : {S : Type 0} (r : Fold S) (s t u : S) (xs ys : List Value) (ps qs : List PieceView) → IsRun r s xs ps t → IsRun r t ys qs u → IsRun r s (xs ++ ys) (ps ++ qs) u
run_join r s t u xs ys ps qs a b = record {
  pieces = ap₂ (λ x y. x ++ y) a.pieces (b.pieces ∙ ap (λ z. pieces_after r z ys) a.exit) ∙ sym (pieces_append r s xs ys);
  exit = b.exit ∙ ap (λ z. state_after r z ys) a.exit ∙ sym (state_append r s xs ys);
}

-- a run whose pieces are added to those of another
pub run_added : {S : Type 0} (r q : Fold S) (s t u : S) (xs ys : List Value) (ps qs : List PieceView) → q ≡ r → IsRun r s xs ps t → u ≡ state_after q t ys → qs ≡ ps ++ pieces_after q t ys → IsRun r s (xs ++ ys) qs u
run_added r q s t u xs ys ps qs e a x y =
    let b : IsRun r t ys (pieces_after q t ys) u = record { pieces = ap (λ z. pieces_after z t ys) e; exit = x ∙ ap (λ z. state_after z t ys) e } in
    subst (λ z. IsRun r s (xs ++ ys) z u) (sym y) (run_join r s t u xs ys ps _ a b)

pub run_none : {S : Type 0} (r : Fold S) (s t : S) (ps : List PieceView) → ps ≡ [] → t ≡ s → IsRun r s [] ps t
run_none r s t ps e x = record { pieces = e; exit = x }

-- one more step of a run that adds pieces
pub step_more : {S : Type 0} (r q : Fold S) (s t t' : S) (done ys : List Value) (x : Value) (old ps qs : List PieceView) (p : PieceView) → ys ≡ done ++ x ∷ [] → q ≡ r → t ≡ state_after r s done → ps ≡ old ++ pieces_after r s done → t' ≡ (q.step t x).1 → p ≡ (q.step t x).0 → qs ≡ ps ++ p ∷ [] → (t' ≡ state_after r s ys) × (qs ≡ old ++ pieces_after r s ys)
step_more r q s t t' done ys x old ps qs p more e a b c d f =
    let stepped : q.step t x ≡ r.step (state_after r s done) x = ap₂ (λ z w. Fold.step z w x) e a in (
      c ∙ ap (λ z. z.1) stepped ∙ sym (state_more r s done ys x more),
      f ∙ ap₂ (λ z w. z ++ w ∷ []) b (d ∙ ap (λ z. z.0) stepped) ∙ append_assoc old (pieces_after r s done) ((r.step (state_after r s done) x).0 ∷ []) ∙ ap (λ z. old ++ z) (sym (pieces_more r s done ys x more)),
    )

-- a run over a page as a whole
pub run_whole : {S : Type 0} (r q : Fold S) (s e t : S) (xs ys : List Value) (ps : List PieceView) → q ≡ r → e ≡ s → xs ≡ ys → IsRun q e ((xs ++ []) ++ []) ps t → IsRun r s ys ps t
run_whole r q s e t xs ys ps a b c h =
    let n : (xs ++ []) ++ [] ≡ ys = append-nil (xs ++ []) ∙ append-nil xs ∙ c in
    record {
      pieces = h.pieces ∙ ap (λ z. pieces_after q e z) n ∙ ap₂ (λ z w. pieces_after z w ys) a b;
      exit = h.exit ∙ ap (λ z. state_after q e z) n ∙ ap₂ (λ z w. state_after z w ys) a b;
    }
