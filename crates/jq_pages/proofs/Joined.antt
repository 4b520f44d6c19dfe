-- Two pages that became one: the pages hold the same.
use Rattle.std.proofs.Common.{◌≡◌, ℕ, ◌+◌, ◌<◌, ◌≤◌, inl, inr, List, ◌∷◌, ◌++◌, length, take, drop, get_or, sym, ◌∙◌, ap, ap₂, subst, map, arith, append_assoc, length-append, length-take-le}
use Rattle.std.proofs.lemmas.Grind.{flat_map-append}
use Rattle.std.proofs.lemmas.List.{drop_more, get_or_append_left, get_or-take, map-append, take-append-le, take-take}
use Rattle.jv_data.specs.Value.{Value}
use Rattle.jv_data.specs.View.{view}
use Rattle.jv_data.specs.declared.values.Val.{Val}
use Rattle.jq_pages.specs.Folds.{Fold, state_after, pieces_after}
use Rattle.jq_pages.specs.Pieces.{PieceView, piece_view}
use Rattle.jq_pages.specs.private.Pages.{all_inputs, IsFilled, IsHeld, IsSized}
use Rattle.jq_pages.specs.private.Placed.{Merged, Merges}
use Rattle.jq_pages.specs.private.Reruns.{IsRun, Holds, inputs_in, kept_of, pieces_in}
use Rattle.jq_pages.specs.declared.page.Page.{Page}
use Rattle.jq_pages.specs.declared.pieces.Piece.{Piece}
use Rattle.jq_pages.proofs.Edits.{around, drop_front, holds_append, holds_left, holds_right, sized_append, sized_left, sized_right}
use Rattle.jq_pages.proofs.Filled.{filled_append, filled_left, filled_right, held_again}
use Rattle.jq_pages.proofs.Folds.{state_append, pieces_append}

-- a list around two of its elements
pub around_two : {A : Type 0} (xs : List A) (j : ℕ) (d : A) → j + 1 < length xs → xs ≡ take j xs ++ (get_or xs j d ∷ get_or xs (j + 1) d ∷ drop (j + 2) xs)
around_two xs j d l =
    let lj : j < length xs = omega arith in
    let e : (j + 1) + 1 ≡ j + 2 = omega arith in
    around xs j d lj ∙ ap (λ z. take j xs ++ (get_or xs j d ∷ z)) (drop_more xs (j + 1) d l ∙ ap (λ n. get_or xs (j + 1) d ∷ drop n xs) e)

-- a list after one element was removed and the one before it was set
pub removed_front : {A : Type 0} (xs : List A) (j : ℕ) → j + 1 < length xs → (take j (take (j + 1) xs ++ drop ((j + 1) + 1) xs) ≡ take j xs) × (drop (j + 1) (take (j + 1) xs ++ drop ((j + 1) + 1) xs) ≡ drop (j + 2) xs)
removed_front xs j l =
    let lj : j + 1 ≤ length xs = omega arith in
    let n : length (take (j + 1) xs) ≡ j + 1 = length-take-le (j + 1) xs lj in
    let m : j ≤ length (take (j + 1) xs) = omega arith in
    let k : j ≤ j + 1 = omega arith in
    let e : (j + 1) + 1 ≡ j + 2 = omega arith in
    (take-append-le j (take (j + 1) xs) (drop ((j + 1) + 1) xs) m ∙ take-take j (j + 1) xs k, drop_front (take (j + 1) xs) (drop ((j + 1) + 1) xs) (j + 1) (sym n) ∙ ap (λ z. drop z xs) e)

-- what such a list has before the removed element
pub removed_at : {A : Type 0} (xs mid : List A) (j : ℕ) (d : A) → mid ≡ take (j + 1) xs ++ drop ((j + 1) + 1) xs → j + 1 < length xs → (j < length mid) × (get_or mid j d ≡ get_or xs j d)
removed_at xs mid j d e l =
    let lj : j + 1 ≤ length xs = omega arith in
    let n : length (take (j + 1) xs) ≡ j + 1 = length-take-le (j + 1) xs lj in
    let m : j < length (take (j + 1) xs) = omega arith in
    let k : j < j + 1 = omega arith in
    let w : length mid ≡ length (take (j + 1) xs) + length (drop ((j + 1) + 1) xs) = ap length e ∙ length-append (take (j + 1) xs) (drop ((j + 1) + 1) xs) in
    (omega arith, ap (λ z. get_or z j d) e ∙ get_or_append_left (take (j + 1) xs) (drop ((j + 1) + 1) xs) d j m ∙ get_or-take (j + 1) xs j d k)

merged_inputs : {T : Type 0} (old new : List (Page T)) (j : ℕ) → Merged old new j → all_inputs new ≡ all_inputs old
merged_inputs old new j x =
    let a = take j old in
    let p = get_or old j x.page in
    let q = get_or old (j + 1) x.page in
    let d = drop (j + 2) old in
    let here : inputs_in x.page ≡ inputs_in p ++ inputs_in q = ap (map view) x.inputs ∙ map-append view p.inputs.items q.inputs.items in
    ap all_inputs x.list ∙ flat_map-append inputs_in a (x.page ∷ d)
    ∙ ap (λ z. all_inputs a ++ z) (ap (λ z. z ++ all_inputs d) here ∙ append_assoc (inputs_in p) (inputs_in q) (all_inputs d))
    ∙ sym (ap all_inputs (around_two old j x.page x.there) ∙ flat_map-append inputs_in a (p ∷ q ∷ d))

-- a run that goes on
run_on : {S : Type 0} (r : Fold S) (s t u : S) (xs ys : List Value) (ps qs : List PieceView) → IsRun r s xs ps t → IsRun r t ys qs u → IsRun r s (xs ++ ys) (ps ++ qs) u
run_on r s t u xs ys ps qs x y = record {
  pieces = ap₂ (λ v w. v ++ w) x.pieces (y.pieces ∙ ap (λ z. pieces_after r z ys) x.exit) ∙ sym (pieces_append r s xs ys);
  exit = y.exit ∙ ap (λ z. state_after r z ys) x.exit ∙ sym (state_append r s xs ys);
}

merged_holds : {T S : Type 0} (seen : T → S) (r : Fold S) (s : S) (old new : List (Page T)) (j : ℕ) → Merged old new j → Holds seen r s old → Holds seen r s new
merged_holds seen r s old new j x h =
    let a = take j old in
    let p = get_or old j x.page in
    let q = get_or old (j + 1) x.page in
    let d = drop (j + 2) old in
    let at = kept_of seen s a in
    let k = subst (λ z. Holds seen r s z) (around_two old j x.page x.there) h in
    let there = holds_right seen r s a (p ∷ q ∷ d) k in
    let vs : inputs_in x.page ≡ inputs_in p ++ inputs_in q = ap (map view) x.inputs ∙ map-append view p.inputs.items q.inputs.items in
    let ps : pieces_in x.page ≡ pieces_in p ++ pieces_in q = ap (map piece_view) x.pieces ∙ map-append piece_view p.pieces.items.items q.pieces.items.items in
    let run : IsRun r at (inputs_in p ++ inputs_in q) (pieces_in p ++ pieces_in q) (seen q.exit) = run_on r at (seen p.exit) (seen q.exit) _ _ _ _ there.0 there.1.0 in
    let run' : IsRun r at (inputs_in x.page) (pieces_in x.page) (seen q.exit) = subst (λ z. IsRun r at z (pieces_in x.page) (seen q.exit)) (sym vs) (subst (λ z. IsRun r at (inputs_in p ++ inputs_in q) z (seen q.exit)) (sym ps) run) in
    subst (λ z. Holds seen r s z) (sym x.list)
    (holds_append seen r s a (x.page ∷ d) (holds_left seen r s a (p ∷ q ∷ d) k)
    (subst (λ z. IsRun r at (inputs_in x.page) (pieces_in x.page) (seen z) × Holds seen r (seen z) d) (sym x.exit) (run', there.1.1)))

merged_sized : {T : Type 0} (old new : List (Page T)) (j : ℕ) → Merged old new j → IsSized old → IsSized new
merged_sized old new j x z =
    let a = take j old in
    let p = get_or old j x.page in
    let q = get_or old (j + 1) x.page in
    let d = drop (j + 2) old in
    let k = subst (λ z. IsSized z) (around_two old j x.page x.there) z in
    subst (λ z. IsSized z) (sym x.list) (sized_append a (x.page ∷ d) (sized_left a (p ∷ q ∷ d) k) (x.few, (sized_right a (p ∷ q ∷ d) k).1.1))

merged_filled : {T : Type 0} (old new : List (Page T)) (j : ℕ) → Merged old new j → IsFilled old → IsFilled new
merged_filled old new j x z =
    let a = take j old in
    let p = get_or old j x.page in
    let q = get_or old (j + 1) x.page in
    let d = drop (j + 2) old in
    let k = subst (λ z. IsFilled z) (around_two old j x.page x.there) z in
    let there = filled_right a (p ∷ q ∷ d) k in
    let n : length x.page.inputs.items ≡ length p.inputs.items + length q.inputs.items = ap (λ (w : List Val). length w) x.inputs ∙ length-append p.inputs.items q.inputs.items in
    let m : 0 < length p.inputs.items = there.0 in
    let some : 0 < length x.page.inputs.items = omega arith in
    subst (λ z. IsFilled z) (sym x.list) (filled_append a (x.page ∷ d) (filled_left a (p ∷ q ∷ d) k) (some, there.1.1))

pub merges_inputs : {T : Type 0} (old new : List (Page T)) → Merges old new → all_inputs new ≡ all_inputs old
merges_inputs old new w = elim w [ inl x ↦ merged_inputs old new x.0 x.1 | inr e ↦ ap all_inputs e ]

pub merges_holds : {T S : Type 0} (seen : T → S) (r : Fold S) (s : S) (old new : List (Page T)) → Merges old new → Holds seen r s old → Holds seen r s new
merges_holds seen r s old new w h = elim w [ inl x ↦ merged_holds seen r s old new x.0 x.1 h | inr e ↦ subst (λ z. Holds seen r s z) (sym e) h ]

merges_sized : {T : Type 0} (old new : List (Page T)) → Merges old new → IsSized old → IsSized new
merges_sized old new w h = elim w [ inl x ↦ merged_sized old new x.0 x.1 h | inr e ↦ subst (λ z. IsSized z) (sym e) h ]

pub merges_filled : {T : Type 0} (old new : List (Page T)) → Merges old new → IsFilled old → IsFilled new
merges_filled old new w h = elim w [ inl x ↦ merged_filled old new x.0 x.1 h | inr e ↦ subst (λ z. IsFilled z) (sym e) h ]

pub merges_held : {T S : Type 0} (seen : T → S) (r : Fold S) (s : S) (old new : List (Page T)) (e : Piece) → Merges old new → IsHeld seen r s old e → IsHeld seen r s new e
merges_held seen r s old new e w h = held_again seen r s old new e h (merges_holds seen r s old new w h.holds) (merges_sized old new w h.sized) (merges_inputs old new w)
