-- Pages that each have an input, and pages that are taken out.
use Rattle.std.proofs.Common.{◌≡◌, ℕ, ◌+◌, ◌-◌, ◌<◌, ◌≤◌, inl, inr, List, [], ◌∷◌, ◌++◌, length, take, drop, get_or, sym, ◌∙◌, ap, subst, map, arith, append_assoc, length-append, length-drop, length-take-le, take-append-drop}
use Rattle.std.proofs.lemmas.Grind.{flat_map-append}
use Rattle.jv_data.specs.Value.{Value}
use Rattle.jv_data.specs.View.{view}
use Rattle.jq_pages.specs.Pieces.{PieceView}
use Rattle.jq_pages.specs.Folds.{Fold, state_after, pieces_after}
use Rattle.jq_pages.specs.private.Reruns.{IsRun, Holds, kept_of, count_in, inputs_in, pieces_in, renewed}
use Rattle.jq_pages.specs.private.Pages.{all_inputs, all_pieces, IsHeld, IsSized, IsFilled, IsFilledBut}
use Rattle.jq_pages.specs.private.Placed.{Installed, Opened, Halved, Dropped}
use Rattle.jq_pages.specs.declared.page.Page.{Page}
use Rattle.jq_pages.specs.declared.page.Rerun.{Rerun}
use Rattle.jv_data.specs.declared.values.Val.{Val}
use Rattle.jq_pages.specs.declared.pieces.Piece.{Piece}
use Rattle.jq_pages.proofs.Edits.{around, holds_left, holds_right, holds_append, inputs_count, sized_append, sized_left, sized_right, take_front, drop_front, pieces_are, kept_is}
use Rattle.jq_pages.proofs.Reruns.{renewed_length}

pub filled_append : {T : Type 0} (ps qs : List (Page T)) → IsFilled ps → IsFilled qs → IsFilled (ps ++ qs)
filled_append [] qs a b = b
filled_append (p ∷ ps) qs a b = (a.0, filled_append ps qs a.1 b)

pub filled_left : {T : Type 0} (ps qs : List (Page T)) → IsFilled (ps ++ qs) → IsFilled ps
filled_left [] qs h = tt
filled_left (p ∷ ps) qs h = (h.0, filled_left ps qs h.1)

pub filled_right : {T : Type 0} (ps qs : List (Page T)) → IsFilled (ps ++ qs) → IsFilled qs
filled_right [] qs h = h
filled_right (p ∷ ps) qs h = filled_right ps qs h.1

pub filled_renewed : {T : Type 0} (qs : List (Page T)) (rs : List (Rerun T)) → IsFilled qs → IsFilled (renewed qs rs)
filled_renewed [] rs h = h
filled_renewed (q ∷ qs) [] h = h
filled_renewed (q ∷ qs) (a ∷ rs) h = (h.0, filled_renewed qs rs h.1)

pub filled_take : {T : Type 0} (n : ℕ) (ps : List (Page T)) → IsFilled ps → IsFilled (take n ps)
filled_take n ps h = filled_left (take n ps) (drop n ps) (subst (λ z. IsFilled z) (sym (take-append-drop n ps)) h)

pub filled_drop : {T : Type 0} (n : ℕ) (ps : List (Page T)) → IsFilled ps → IsFilled (drop n ps)
filled_drop n ps h = filled_right (take n ps) (drop n ps) (subst (λ z. IsFilled z) (sym (take-append-drop n ps)) h)

pub filled_but : {T : Type 0} (j : ℕ) (ps : List (Page T)) → IsFilled ps → IsFilledBut j ps
filled_but j ps h = (filled_take j ps h, filled_drop (j + 1) ps h)

-- the pages around one that was put in the place of another, or between two
parts_but : {T : Type 0} (as' bs new : List (Page T)) (p : Page T) (j : ℕ) → new ≡ as' ++ (p ∷ bs) → j ≡ length as' → IsFilled as' → IsFilled bs → IsFilledBut j new
parts_but as' bs new p j e n a b =
    let m : j + 1 ≡ length (as' ++ p ∷ []) = ap (λ z. z + 1) n ∙ sym (length-append as' (p ∷ [])) in (
      subst (λ z. IsFilled z) (sym (ap (take j) e ∙ take_front as' (p ∷ bs) j n)) a,
      subst (λ z. IsFilled z) (sym (ap (drop (j + 1)) (e ∙ sym (append_assoc as' (p ∷ []) bs)) ∙ drop_front (as' ++ p ∷ []) bs (j + 1) m)) b,
    )

pub set_but : {T : Type 0} (old new bs : List (Page T)) (p : Page T) (j : ℕ) → new ≡ take j old ++ (p ∷ bs) → j < length old → IsFilled (take j old) → IsFilled bs → IsFilledBut j new
set_but old new bs p j e l a b = let lj : j ≤ length old = omega arith in parts_but (take j old) bs new p j e (sym (length-take-le j old lj)) a b

pub installed_but : {T : Type 0} (old new : List (Page T)) (j i : ℕ) (put : List Val) (cut : ℕ) (a : Rerun T) (rs : List (Rerun T)) → Installed old new j i put cut a rs → j < length old → IsFilledBut j old → IsFilledBut j new
installed_but old new j i put cut a rs x l h = set_but old new (renewed (drop (j + 1) old) rs) x.page j x.list l h.0 (filled_renewed (drop (j + 1) old) rs h.1)

pub opened_but : {T S : Type 0} (seen : T → S) (s : S) (old new : List (Page T)) (j : ℕ) → Opened seen s old new j → j ≤ length old → IsFilled old → IsFilledBut j new
opened_but seen s old new j x l h = parts_but (take j old) (drop j old) new x.page j x.list (sym (length-take-le j old l)) (filled_take j old h) (filled_drop j old h)

pub halved_filled : {T S : Type 0} (seen : T → S) (r : Fold S) (s : S) (old new : List (Page T)) (j : ℕ) (x : Halved seen r s old new j) → j < length old → ((d : Page T) → 64 ≤ length (get_or old j d).inputs.items) → IsFilled old → IsFilled new
halved_filled seen r s old new j x l long h =
    let y = x.divided in
    let p = get_or old j y.one in
    let n : 64 ≤ length p.inputs.items = long y.one in
    let m : 32 ≤ length p.inputs.items = omega arith in
    let n1 : length y.one.inputs.items ≡ 32 = ap (λ (w : List Val). length w) y.inputs ∙ length-take-le 32 p.inputs.items m in
    let n2 : length y.two.inputs.items ≡ length p.inputs.items - 32 = ap (λ (w : List Val). length w) y.later_inputs ∙ length-drop 32 p.inputs.items in
    let m1 : 0 < length y.one.inputs.items = omega arith in
    let m2 : 0 < length y.two.inputs.items = omega arith in
    subst (λ z. IsFilled z) (sym y.list) (filled_append (take j old) (y.one ∷ y.two ∷ drop (j + 1) old) (filled_take j old h) (m1, (m2, filled_drop (j + 1) old h)))

-- a page without an input, taken out
gone_run : {S : Type 0} (r : Fold S) (s t : S) (vs : List Value) (ps : List PieceView) → vs ≡ [] → IsRun r s vs ps t → (ps ≡ []) × (t ≡ s)
gone_run r s t vs ps e h = (h.pieces ∙ ap (pieces_after r s) e, h.exit ∙ ap (state_after r s) e)

gone_inputs : {T : Type 0} (old : List (Page T)) (j : ℕ) (d : Page T) → j < length old → (get_or old j d).inputs.items ≡ [] → all_inputs (take j old ++ drop (j + 1) old) ≡ all_inputs old
gone_inputs old j d l e =
    flat_map-append inputs_in (take j old) (drop (j + 1) old)
    ∙ sym (ap all_inputs (around old j d l) ∙ flat_map-append inputs_in (take j old) (get_or old j d ∷ drop (j + 1) old) ∙ ap (λ z. all_inputs (take j old) ++ (map view z ++ all_inputs (drop (j + 1) old))) e)

gone_holds : {T S : Type 0} (seen : T → S) (r : Fold S) (s : S) (old : List (Page T)) (j : ℕ) (d : Page T) → j < length old → (get_or old j d).inputs.items ≡ [] → Holds seen r s old → Holds seen r s (take j old ++ drop (j + 1) old)
gone_holds seen r s old j d l e h =
    let a = take j old in
    let b = drop (j + 1) old in
    let p = get_or old j d in
    let k = subst (λ z. Holds seen r s z) (around old j d l) h in
    let there = holds_right seen r s a (p ∷ b) k in
    let none = gone_run r (kept_of seen s a) (seen p.exit) (inputs_in p) (pieces_in p) (ap (map view) e) there.0 in
    holds_append seen r s a b (holds_left seen r s a (p ∷ b) k) (subst (λ z. Holds seen r z b) none.1 there.1)

the_default : {T : Type 0} (old : List (Page T)) (j : ℕ) → j < length old → Page T
the_default [] j l = absurd (omega arith)
the_default (p ∷ ps) j l = p

pub dropped_within : {T : Type 0} (old new : List (Page T)) (j : ℕ) → Dropped old new j → j < length old → j ≤ length new
dropped_within old new j w l =
    let lj : j ≤ length old = omega arith in
    let n : length (take j old) ≡ j = length-take-le j old lj in
    elim w [
      | inl x ↦ let m : length new ≡ length (take j old) + length (drop (j + 1) old) = ap length x.0 ∙ length-append (take j old) (drop (j + 1) old) in omega arith
      | inr x ↦ let m : length new ≡ length old = ap length x.0 in omega arith
    ]

pub dropped_inputs : {T : Type 0} (old new : List (Page T)) (j : ℕ) → Dropped old new j → j < length old → all_inputs new ≡ all_inputs old
dropped_inputs old new j w l = elim w [ inl x ↦ ap all_inputs x.0 ∙ gone_inputs old j (the_default old j l) l (x.1 (the_default old j l)) | inr x ↦ ap all_inputs x.0 ]

pub dropped_holds : {T S : Type 0} (seen : T → S) (r : Fold S) (s : S) (old new : List (Page T)) (j : ℕ) → Dropped old new j → j < length old → Holds seen r s old → Holds seen r s new
dropped_holds seen r s old new j w l h = elim w [ inl x ↦ subst (λ z. Holds seen r s z) (sym x.0) (gone_holds seen r s old j (the_default old j l) l (x.1 (the_default old j l)) h) | inr x ↦ subst (λ z. Holds seen r s z) (sym x.0) h ]

pub dropped_sized : {T : Type 0} (old new : List (Page T)) (j : ℕ) → Dropped old new j → j < length old → IsSized old → IsSized new
dropped_sized old new j w l h =
    let d = the_default old j l in
    let k = subst (λ z. IsSized z) (around old j d l) h in
    elim w [
      | inl x ↦ subst (λ z. IsSized z) (sym x.0) (sized_append (take j old) (drop (j + 1) old) (sized_left (take j old) (get_or old j d ∷ drop (j + 1) old) k) (sized_right (take j old) (get_or old j d ∷ drop (j + 1) old) k).1)
      | inr x ↦ subst (λ z. IsSized z) (sym x.0) h
    ]

pub dropped_filled : {T : Type 0} (old new : List (Page T)) (j : ℕ) → Dropped old new j → j < length old → IsFilledBut j old → IsFilled new
dropped_filled old new j w l h =
    let d = the_default old j l in
    elim w [
      | inl x ↦ subst (λ z. IsFilled z) (sym x.0) (filled_append (take j old) (drop (j + 1) old) h.0 h.1)
      | inr x ↦ subst (λ z. IsFilled z) (sym (x.0 ∙ around old j d l)) (filled_append (take j old) (get_or old j d ∷ drop (j + 1) old) h.0 (x.1 d, h.1))
    ]

-- pages over the same inputs hold the same pieces
pub same_pieces : {T S : Type 0} (seen : T → S) (r : Fold S) (s : S) (old new : List (Page T)) → Holds seen r s old → Holds seen r s new → all_inputs new ≡ all_inputs old → all_pieces new ≡ all_pieces old
same_pieces seen r s old new a b e = pieces_are seen r s new b ∙ ap (pieces_after r s) e ∙ sym (pieces_are seen r s old a)

pub installed_length : {T : Type 0} (old new : List (Page T)) (j i : ℕ) (put : List Val) (cut : ℕ) (a : Rerun T) (rs : List (Rerun T)) → Installed old new j i put cut a rs → j < length old → length new ≡ length old
installed_length old new j i put cut a rs x l =
    let lj : j ≤ length old = omega arith in
    let n1 : length new ≡ length (take j old) + length (x.page ∷ renewed (drop (j + 1) old) rs) = ap length x.list ∙ length-append (take j old) (x.page ∷ renewed (drop (j + 1) old) rs) in
    let n2 : length (renewed (drop (j + 1) old) rs) ≡ length (drop (j + 1) old) = renewed_length (drop (j + 1) old) rs in
    let n3 : length (drop (j + 1) old) ≡ length old - (j + 1) = length-drop (j + 1) old in
    let n4 : length (take j old) ≡ j = length-take-le j old lj in
    omega arith

-- pages that hold the same inputs, before the same close
pub held_again : {T S : Type 0} (seen : T → S) (r : Fold S) (s : S) (old new : List (Page T)) (e : Piece) → IsHeld seen r s old e → Holds seen r s new → IsSized new → all_inputs new ≡ all_inputs old → IsHeld seen r s new e
held_again seen r s old new e h k z i = record { holds = k; sized = z; tail = h.tail ∙ ap r.close (kept_is seen r s old h.holds ∙ ap (state_after r s) (sym i) ∙ sym (kept_is seen r s new k)) }

pub dropped_held : {T S : Type 0} (seen : T → S) (r : Fold S) (s : S) (old new : List (Page T)) (j : ℕ) (e : Piece) → Dropped old new j → j < length old → IsHeld seen r s old e → IsHeld seen r s new e
dropped_held seen r s old new j e w l h = held_again seen r s old new e h (dropped_holds seen r s old new j w l h.holds) (dropped_sized old new j w l h.sized) (dropped_inputs old new j w l)

pub same_count : {T : Type 0} (old new : List (Page T)) → all_inputs new ≡ all_inputs old → count_in new ≡ count_in old
same_count old new e = sym (inputs_count new) ∙ ap length e ∙ inputs_count old
