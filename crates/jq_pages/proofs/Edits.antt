-- Edits of pages: what they hold afterwards, and how far the runs went.
use Rattle.std.proofs.Common.{◌≡◌, ℕ, zero, suc, ◌+◌, ◌-◌, ◌<◌, ◌≤◌, ◌⊎◌, inl, inr, List, [], ◌∷◌, ◌++◌, length, take, drop, get_or, refl, sym, ◌∙◌, ap, ap₂, subst, map, arith, append_assoc, append-nil, length-append, length-drop, length-take-le, take-append-drop, set, IsTrue}
use Rattle.std.proofs.lemmas.Grind.{flat_map-append, take_at_read, take-set_at}
use Rattle.std.proofs.lemmas.List.{drop-set-lt, map-append, take-map, drop-map, take-append-le, drop-append-le}
use Rattle.std.proofs.Math.Seq.{take-append-add, drop-append-add, take-add, take-append_seam, drop-append_seam}
use Rattle.std.specs.List.{replace_range}
use Rattle.jv_data.specs.Value.{Value}
use Rattle.jv_data.specs.View.{view}
use Rattle.jq_pages.specs.Pieces.{piece_view}
use Rattle.jq_pages.specs.Folds.{Fold, state_after, pieces_after}
use Rattle.jq_pages.specs.private.Reruns.{IsRun, IsRunOf, RunsOver, Holds, MeetsAt, exit_of, kept_of, count_in, renewed, inputs_in, pieces_in}
use Rattle.jq_pages.specs.private.Pages.{all_inputs, all_pieces, IsSized}
use Rattle.jq_pages.specs.private.Placed.{put_at}
use Rattle.jq_pages.specs.private.Edits.{Meets, IsListChange}
use Rattle.jq_pages.specs.declared.page.Page.{Page}
use Rattle.jq_pages.specs.declared.page.Rerun.{Rerun}
use Rattle.jv_data.specs.declared.values.Val.{Val}
use Rattle.jq_pages.specs.declared.changes.Change.{Change}
use Rattle.jq_pages.proofs.Folds.{state_append, pieces_append}
use Rattle.jq_pages.proofs.Reruns.{cut_off, run_all}

-- a list around one of its elements
pub around : {A : Type 0} (xs : List A) (j : ℕ) (d : A) → j < length xs → xs ≡ take j xs ++ (get_or xs j d ∷ drop (j + 1) xs)
around xs j d l =
    sym (take-append-drop (j + 1) xs) ∙ ap (λ z. z ++ drop (j + 1) xs) (take_at_read xs j d l).1 ∙ append_assoc (take j xs) (get_or xs j d ∷ []) (drop (j + 1) xs)

pub holds_append : {T S : Type 0} (seen : T → S) (r : Fold S) (s : S) (ps qs : List (Page T)) → Holds seen r s ps → Holds seen r (kept_of seen s ps) qs → Holds seen r s (ps ++ qs)
holds_append seen r s [] qs a b = b
holds_append seen r s (p ∷ ps) qs a b = (a.0, holds_append seen r (seen p.exit) ps qs a.1 b)

pub holds_left : {T S : Type 0} (seen : T → S) (r : Fold S) (s : S) (ps qs : List (Page T)) → Holds seen r s (ps ++ qs) → Holds seen r s ps
holds_left seen r s [] qs h = tt
holds_left seen r s (p ∷ ps) qs h = (h.0, holds_left seen r (seen p.exit) ps qs h.1)

pub holds_right : {T S : Type 0} (seen : T → S) (r : Fold S) (s : S) (ps qs : List (Page T)) → Holds seen r s (ps ++ qs) → Holds seen r (kept_of seen s ps) qs
holds_right seen r s [] qs h = h
holds_right seen r s (p ∷ ps) qs h = holds_right seen r (seen p.exit) ps qs h.1

-- the state that the pages keep is that after their inputs
pub kept_is : {T S : Type 0} (seen : T → S) (r : Fold S) (s : S) (ps : List (Page T)) → Holds seen r s ps → kept_of seen s ps ≡ state_after r s (all_inputs ps)
kept_is seen r s [] h = refl
kept_is seen r s (p ∷ ps) h =
    kept_is seen r (seen p.exit) ps h.1 ∙ ap (λ z. state_after r z (all_inputs ps)) h.0.exit ∙ sym (state_append r s (inputs_in p) (all_inputs ps))

-- the pieces that the pages hold are those of their inputs
pub pieces_are : {T S : Type 0} (seen : T → S) (r : Fold S) (s : S) (ps : List (Page T)) → Holds seen r s ps → all_pieces ps ≡ pieces_after r s (all_inputs ps)
pieces_are seen r s [] h = refl
pieces_are seen r s (p ∷ ps) h =
    ap₂ (λ x y. x ++ y) h.0.pieces (pieces_are seen r (seen p.exit) ps h.1 ∙ ap (λ z. pieces_after r z (all_inputs ps)) h.0.exit) ∙ sym (pieces_append r s (inputs_in p) (all_inputs ps))

pub pieces_count : {S : Type 0} (r : Fold S) (s : S) (vs : List Value) → length (pieces_after r s vs) ≡ length vs
pieces_count r s [] = refl
pieces_count r s (v ∷ vs) = ap suc (pieces_count r (r.step s v).1 vs)

pub map_length : {A B : Type 0} (f : A → B) (xs : List A) → length (map f xs) ≡ length xs
map_length f [] = refl
map_length f (x ∷ xs) = ap suc (map_length f xs)

pub inputs_count : {T : Type 0} (ps : List (Page T)) → length (all_inputs ps) ≡ count_in ps
inputs_count [] = refl
inputs_count (p ∷ ps) = length-append (inputs_in p) (all_inputs ps) ∙ ap₂ (λ x y. x + y) (map_length view p.inputs.items) (inputs_count ps)

-- the inputs of pages with other runs
pub renewed_inputs : {T : Type 0} (ps : List (Page T)) (rs : List (Rerun T)) → all_inputs (renewed ps rs) ≡ all_inputs ps
renewed_inputs [] rs = refl
renewed_inputs (p ∷ ps) [] = refl
renewed_inputs (p ∷ ps) (a ∷ rs) = ap (λ z. inputs_in p ++ z) (renewed_inputs ps rs)

pub renewed_rest : {T : Type 0} (ps : List (Page T)) (rs : List (Rerun T)) → drop (length rs) (renewed ps rs) ≡ drop (length rs) ps
renewed_rest [] rs = refl
renewed_rest (p ∷ ps) [] = refl
renewed_rest (p ∷ ps) (a ∷ rs) = renewed_rest ps rs

-- the pages after an edit of one, and the runs from there on
pub sound_after : {T S : Type 0} (seen : T → S) (r : Fold S) (s : S) (ps qs : List (Page T)) (p p' : Page T) (a : Rerun T) (rs : List (Rerun T)) (vs : List Value) → Holds seen r s (ps ++ (p ∷ qs)) → IsRunOf seen r (kept_of seen s ps) vs a → inputs_in p' ≡ vs → p'.pieces ≡ a.pieces → p'.exit ≡ a.exit → RunsOver seen r (seen a.exit) qs rs → (exit_of seen (seen a.exit) rs ≡ kept_of seen (seen p.exit) (take (length rs) qs)) ⊎ (length rs ≡ length qs) → Holds seen r s (ps ++ (p' ∷ renewed qs rs))
sound_after seen r s ps qs p p' a rs vs h run e f g over stop =
    let rest : Holds seen r (seen p.exit) qs = (holds_right seen r s ps (p ∷ qs) h).1 in
    let k : Holds seen r (seen a.exit) (renewed qs rs) = elim stop [ inl m ↦ cut_off seen r (seen a.exit) (seen p.exit) qs rs rest over m | inr n ↦ run_all seen r (seen a.exit) qs rs over n ] in
    let page : IsRun r (kept_of seen s ps) (inputs_in p') (pieces_in p') (seen p'.exit) = record {
      pieces = ap (λ z. map piece_view z.items.items) f ∙ run.pieces ∙ ap (λ z. pieces_after r (kept_of seen s ps) z) (sym e);
      exit = ap seen g ∙ run.exit ∙ ap (λ z. state_after r (kept_of seen s ps) z) (sym e);
    } in
    holds_append seen r s ps (p' ∷ renewed qs rs) (holds_left seen r s ps (p ∷ qs) h) (page, subst (λ z. Holds seen r (seen z) (renewed qs rs)) (sym g) k)

-- joined lists, cut within the second part
pub cut_within : {A : Type 0} (xs vs ys : List A) (i : ℕ) → i ≤ length vs → take (length xs + i) (xs ++ (vs ++ ys)) ≡ xs ++ take i vs
cut_within xs vs ys i l = take-append-add xs (vs ++ ys) i ∙ ap (λ z. xs ++ z) (take-append-le i vs ys l)

pub drop_within : {A : Type 0} (xs vs ys : List A) (i : ℕ) → i ≤ length vs → drop (length xs + i) (xs ++ (vs ++ ys)) ≡ drop i vs ++ ys
drop_within xs vs ys i l = drop-append-add xs (vs ++ ys) i ∙ drop-append-le i vs ys l

-- an edit within the second of three parts
pub edited_within : {A : Type 0} (xs vs ys ps : List A) (i cut : ℕ) → i + cut ≤ length vs → replace_range (xs ++ (vs ++ ys)) (length xs + i) ((length xs + i) + cut) ps ≡ xs ++ (((take i vs ++ ps) ++ drop (i + cut) vs) ++ ys)
edited_within xs vs ys ps i cut l =
    let l' : i ≤ length vs = omega arith in
    let e : (length xs + i) + cut ≡ length xs + (i + cut) = omega arith in
    ap₂ (λ x y. (x ++ ps) ++ y) (cut_within xs vs ys i l') (ap (λ z. drop z (xs ++ (vs ++ ys))) e ∙ drop_within xs vs ys (i + cut) l)
    ∙ simp append_assoc

-- how many of these pages it takes to have `u` inputs
abbrev pub reach : {T : Type 0} → List (Page T) → ℕ → ℕ
reach [] u = 0
reach (b ∷ bs) zero = 0
reach (b ∷ bs) (suc u) = suc (reach bs (suc u - length b.inputs.items))

reach_none : {T : Type 0} (bs : List (Page T)) (u : ℕ) → u ≡ 0 → count_in (take (reach bs u) bs) ≡ 0
reach_none [] zero e = refl
reach_none [] (suc u) e = absurd (omega arith)
reach_none (b ∷ bs) zero e = refl
reach_none (b ∷ bs) (suc u) e = absurd (omega arith)

pub reach_fits : {T : Type 0} (bs : List (Page T)) (u : ℕ) → reach bs u ≤ length bs
reach_fits [] u = omega arith
reach_fits (b ∷ bs) zero = omega arith
reach_fits (b ∷ bs) (suc u) = let h : reach bs (suc u - length b.inputs.items) ≤ length bs = reach_fits bs (suc u - length b.inputs.items) in omega arith

pub reach_has : {T : Type 0} (bs : List (Page T)) (u : ℕ) → u ≤ count_in bs → u ≤ count_in (take (reach bs u) bs)
reach_has [] u l = omega arith
reach_has (b ∷ bs) zero l = omega arith
reach_has (b ∷ bs) (suc u) l =
    let v = suc u - length b.inputs.items in
    let m : v ≤ count_in bs = omega arith in
    let h : v ≤ count_in (take (reach bs v) bs) = reach_has bs v m in
    omega arith

zero_or : (u : ℕ) → (u ≡ 0) ⊎ (0 < u)
zero_or zero = inl refl
zero_or (suc u) = inr (omega arith)

near_more : (u n k : ℕ) → n ≤ 64 → (suc u - n ≡ 0 → k ≡ 0) → k + 1 ≤ (suc u - n) + 64 → n + k + 1 ≤ suc u + 64
near_more u n k l z h = elim (zero_or (suc u - n)) [ inl e ↦ let k0 : k ≡ 0 = z e in omega arith | inr g ↦ omega arith ]

pub reach_near : {T : Type 0} (bs : List (Page T)) (u : ℕ) → IsSized bs → (count_in (take (reach bs u) bs) ≡ 0) ⊎ (count_in (take (reach bs u) bs) + 1 ≤ u + 64)
reach_near [] u z = inl refl
reach_near (b ∷ bs) zero z = inl refl
reach_near (b ∷ bs) (suc u) z =
    let v = suc u - length b.inputs.items in
    let few : length b.inputs.items ≤ 64 = z.0 in
    elim (reach_near bs v z.1) as (λ _. (length b.inputs.items + count_in (take (reach bs v) bs) ≡ 0) ⊎ (length b.inputs.items + count_in (take (reach bs v) bs) + 1 ≤ suc u + 64)) [
      | inl h ↦ inr (omega arith)
      | inr h ↦ inr (near_more u (length b.inputs.items) (count_in (take (reach bs v) bs)) few (λ e. reach_none bs v e) h)
    ]

-- the inputs of the first pages
pub first_inputs : {T : Type 0} (bs : List (Page T)) (t : ℕ) → take (count_in (take t bs)) (all_inputs bs) ≡ all_inputs (take t bs)
first_inputs bs t =
    let cs = take t bs in
    let n : count_in cs ≡ length (all_inputs cs) + 0 = sym (inputs_count cs) ∙ omega arith in
    ap₂ (λ x y. take x y) n (ap all_inputs (sym (take-append-drop t bs)) ∙ flat_map-append inputs_in cs (drop t bs))
    ∙ take-append-add (all_inputs cs) (all_inputs (drop t bs)) 0 ∙ append-nil (all_inputs cs)

after_more : {S : Type 0} (r : Fold S) (s : S) (xs ls : List Value) (u w : ℕ) (ms : List Value) → ms ≡ take u ls ++ take w (drop u ls) → state_after r s (xs ++ ms) ≡ state_after r (state_after r s (xs ++ take u ls)) (take w (drop u ls))
after_more r s xs ls u w ms m = ap (λ z. state_after r s (xs ++ z)) m ∙ ap (state_after r s) (sym (append_assoc xs (take u ls) (take w (drop u ls)))) ∙ state_append r s (xs ++ take u ls) (take w (drop u ls))

-- Once two runs meet before the same inputs, they stay together.
pub together : {S : Type 0} (r : Fold S) (s : S) (xs ys ls : List Value) (u v : ℕ) → u ≤ v → state_after r s (xs ++ take u ls) ≡ state_after r s (ys ++ take u ls) → state_after r s (xs ++ take v ls) ≡ state_after r s (ys ++ take v ls)
together r s xs ys ls u v l e =
    let w : v ≡ u + (v - u) = omega arith in
    let m : take v ls ≡ take u ls ++ take (v - u) (drop u ls) = ap (λ z. take z ls) w ∙ take-add u (v - u) ls in
    after_more r s xs ls u (v - u) (take v ls) m ∙ ap (λ z. state_after r z (take (v - u) (drop u ls))) e ∙ sym (after_more r s ys ls u (v - u) (take v ls) m)

-- a place after the edited ones, in terms of what stands there
meets_apart : {S : Type 0} (r : Fold S) (s : S) (xs ys ls : List Value) (p put cut q : ℕ) → length xs ≡ p + put → length ys ≡ p + cut → p + put ≤ q → state_after r s (take q (xs ++ ls)) ≡ state_after r s (take ((q + cut) - put) (ys ++ ls)) → state_after r s (xs ++ take (q - (p + put)) ls) ≡ state_after r s (ys ++ take (q - (p + put)) ls)
meets_apart r s xs ys ls p put cut q m n l e =
    let u = q - (p + put) in
    let a : q ≡ length xs + u = omega arith in
    let b : (q + cut) - put ≡ length ys + u = omega arith in
    ap (state_after r s) (sym (ap (λ z. take z (xs ++ ls)) a ∙ take-append-add xs ls u)) ∙ e ∙ ap (state_after r s) (ap (λ z. take z (ys ++ ls)) b ∙ take-append-add ys ls u)

regrouped : (x a p d z : List Value) → (x ++ ((a ++ p) ++ d)) ++ z ≡ ((x ++ a) ++ p) ++ (d ++ z)
regrouped x a p d z = simp append_assoc

regrouped_old : (x v : List Value) (n : ℕ) (z : List Value) → (x ++ v) ++ z ≡ (x ++ take n v) ++ (drop n v ++ z)
regrouped_old x v n z =
    ap (λ k. (x ++ k) ++ z) (sym (take-append-drop n v)) ∙ ap (λ k. k ++ z) (sym (append_assoc x (take n v) (drop n v))) ∙ append_assoc (x ++ take n v) (drop n v) z

-- Where the two runs meet at a place, they meet at the end of each page after it.
pub meets_at : {T S : Type 0} (seen : T → S) (r : Fold S) (s : S) (as' bs : List (Page T)) (b : Page T) (put : List Value) (i cut q t : ℕ) → Holds seen r s (as' ++ (b ∷ bs)) → i + cut ≤ length b.inputs.items → (let o = all_inputs (as' ++ (b ∷ bs)) in Meets r s o (replace_range o (count_in as' + i) ((count_in as' + i) + cut) put) (count_in as' + i) (length put) cut q) → q ≤ (count_in as' + ((i + length put) + (length b.inputs.items - (i + cut)))) + count_in (take t bs) → MeetsAt seen r (state_after r (kept_of seen s as') ((take i (inputs_in b) ++ put) ++ drop (i + cut) (inputs_in b))) (seen b.exit) bs t
meets_at seen r s as' bs b put i cut q t h l m far =
    let x = all_inputs as' in
    let v = inputs_in b in
    let y = all_inputs bs in
    let xn : length x ≡ count_in as' = inputs_count as' in
    let vn : length v ≡ length b.inputs.items = map_length view b.inputs.items in
    let yn : length y ≡ count_in bs = inputs_count bs in
    let li : i ≤ length v = omega arith in
    let lc : i + cut ≤ length v = omega arith in
    let o = all_inputs (as' ++ (b ∷ bs)) in
    let o_is : o ≡ x ++ (v ++ y) = flat_map-append inputs_in as' (b ∷ bs) in
    let n1 : length (v ++ y) ≡ length v + length y = length-append v y in
    let on : length o ≡ length x + (length v + length y) = ap length o_is ∙ length-append x (v ++ y) ∙ ap (λ z. length x + z) n1 in
    let pl = count_in as' + i in
    let lp : pl ≤ length o = omega arith in
    let lq : pl + cut ≤ length o = omega arith in
    let front = take pl o ++ put in
    let old_front = take (pl + cut) o in
    let ls = drop (pl + cut) o in
    let tn : length (take pl o) ≡ pl = length-take-le pl o lp in
    let fn : length front ≡ pl + length put = length-append (take pl o) put ∙ ap (λ z. z + length put) tn in
    let gn : length old_front ≡ pl + cut = length-take-le (pl + cut) o lq in
    let same : state_after r s (take q (front ++ ls)) ≡ state_after r s (take ((q + cut) - length put) (old_front ++ ls)) =
    m.same ∙ ap (λ z. state_after r s (take ((q + cut) - length put) z)) (sym (take-append-drop (pl + cut) o)) in
    let d = drop (i + cut) v in
    let z = all_inputs (take t bs) in
    let w = (length b.inputs.items - (i + cut)) + count_in (take t bs) in
    let ma : pl + length put ≤ q = m.after in
    let lu : q - (pl + length put) ≤ w = omega arith in
    let joined : state_after r s (front ++ take w ls) ≡ state_after r s (old_front ++ take w ls) =
    together r s front old_front ls (q - (pl + length put)) w lu (meets_apart r s front old_front ls pl (length put) cut q fn gn ma same) in
    let pl_is : pl ≡ length x + i = omega arith in
    let pc_is : pl + cut ≡ length x + (i + cut) = omega arith in
    let front_is : front ≡ (x ++ take i v) ++ put = ap (λ k. k ++ put) (ap₂ take pl_is o_is ∙ cut_within x v y i li) in
    let old_is : old_front ≡ x ++ take (i + cut) v = ap₂ take pc_is o_is ∙ cut_within x v y (i + cut) lc in
    let dn : length d ≡ length v - (i + cut) = length-drop (i + cut) v in
    let w_is : w ≡ length d + count_in (take t bs) = omega arith in
    let rest_is : take w ls ≡ d ++ z =
    ap₂ take w_is (ap₂ drop pc_is o_is ∙ drop_within x v y (i + cut) lc) ∙ take-append-add d y (count_in (take t bs)) ∙ ap (λ k. d ++ k) (first_inputs bs t) in
    let left : state_after r (state_after r (kept_of seen s as') ((take i v ++ put) ++ d)) z ≡ state_after r s (front ++ take w ls) =
    ap (λ k. state_after r (state_after r k ((take i v ++ put) ++ d)) z) (kept_is seen r s as' (holds_left seen r s as' (b ∷ bs) h))
    ∙ ap (λ k. state_after r k z) (sym (state_append r s x ((take i v ++ put) ++ d)))
    ∙ sym (state_append r s (x ++ ((take i v ++ put) ++ d)) z)
    ∙ ap (state_after r s) (regrouped x (take i v) put d z ∙ sym (ap₂ (λ k n. k ++ n) front_is rest_is)) in
    let tail = holds_right seen r s as' (b ∷ bs) h in
    let later : Holds seen r (seen b.exit) (take t bs) = holds_left seen r (seen b.exit) (take t bs) (drop t bs) (subst (λ k. Holds seen r (seen b.exit) k) (sym (take-append-drop t bs)) tail.1) in
    let right : kept_of seen (seen b.exit) (take t bs) ≡ state_after r s (old_front ++ take w ls) =
    kept_is seen r (seen b.exit) (take t bs) later
    ∙ ap (λ k. state_after r k z) (tail.0.exit ∙ ap (λ k. state_after r k v) (kept_is seen r s as' (holds_left seen r s as' (b ∷ bs) h)) ∙ sym (state_append r s x v))
    ∙ sym (state_append r s (x ++ v) z)
    ∙ ap (state_after r s) (regrouped_old x v (i + cut) z ∙ sym (ap₂ (λ k n. k ++ n) old_is rest_is)) in
    left ∙ joined ∙ sym right

near_enough : (a i put cut n base q k : ℕ) → i + cut ≤ n → n + put ≤ 64 + cut → base ≡ (i + put) + (n - (i + cut)) → (a + i) + put ≤ q → (q - (a + base) ≡ 0 → k ≡ 0) → (k ≡ 0) ⊎ (k + 1 ≤ (q - (a + base)) + 64) → k + base + 1 ≤ (q - (a + i)) + i + 65
near_enough a i put cut n base q k l few e m z c =
    elim (zero_or (q - (a + base))) [
      | inl g ↦ let k0 : k ≡ 0 = z g in omega arith
      | inr g ↦ elim c [ inl h ↦ omega arith | inr h ↦ omega arith ]
    ]

-- A page end near after a meeting place, at which the runs meet.
pub meeting_end : {T S : Type 0} (seen : T → S) (r : Fold S) (s : S) (as' bs : List (Page T)) (b : Page T) (put : List Value) (i cut q base : ℕ) → Holds seen r s (as' ++ (b ∷ bs)) → IsSized bs → i + cut ≤ length b.inputs.items → length b.inputs.items + length put ≤ 64 + cut → base ≡ (i + length put) + (length b.inputs.items - (i + cut)) → (let o = all_inputs (as' ++ (b ∷ bs)) in Meets r s o (replace_range o (count_in as' + i) ((count_in as' + i) + cut) put) (count_in as' + i) (length put) cut q) → q ≤ (count_in as' + base) + count_in bs → (t : ℕ) × (t ≤ length bs) × (MeetsAt seen r (state_after r (kept_of seen s as') ((take i (inputs_in b) ++ put) ++ drop (i + cut) (inputs_in b))) (seen b.exit) bs t) × (count_in (take t bs) + base + 1 ≤ (q - (count_in as' + i)) + i + 65)
meeting_end seen r s as' bs b put i cut q base h z l few e m far =
    let u = q - (count_in as' + base) in
    let t = reach bs u in
    let fu : u ≤ count_in bs = omega arith in
    let has : u ≤ count_in (take t bs) = reach_has bs u fu in
    let there : q ≤ (count_in as' + ((i + length put) + (length b.inputs.items - (i + cut)))) + count_in (take t bs) = omega arith in
    let ma : (count_in as' + i) + length put ≤ q = m.after in (
      t,
      reach_fits bs u,
      meets_at seen r s as' bs b put i cut q t h l m there,
      near_enough (count_in as') i (length put) cut (length b.inputs.items) base q (count_in (take t bs)) l few e ma (reach_none bs u) (reach_near bs u z),
    )

pub same_default : {A : Type 0} (xs : List A) (j : ℕ) (d e : A) → j < length xs → get_or xs j d ≡ get_or xs j e
same_default [] j d e l = absurd (omega arith)
same_default (x ∷ xs) zero d e l = refl
same_default (x ∷ xs) (suc j) d e l = let l' : j < length xs = omega arith in same_default xs j d e l'

pub mapped_edit : {A B : Type 0} (f : A → B) (xs ys zs : List A) → map f ((xs ++ ys) ++ zs) ≡ (map f xs ++ map f ys) ++ map f zs
mapped_edit f xs ys zs = map-append f (xs ++ ys) zs ∙ ap (λ z. z ++ map f zs) (map-append f xs ys)

-- the pages with one of them set, and runs put in place after it
pub set_and_renewed : {T : Type 0} (ps : List (Page T)) (j : ℕ) (p : Page T) (rs : List (Rerun T)) → j < length ps → take (j + 1) (set ps j p) ++ renewed (drop (j + 1) (set ps j p)) rs ≡ take j ps ++ (p ∷ renewed (drop (j + 1) ps) rs)
set_and_renewed ps j p rs l =
    let m : j < j + 1 = omega arith in
    ap₂ (λ x y. x ++ renewed y rs) (take-set_at ps j (j + 1) p refl l) (drop-set-lt (j + 1) ps j p m) ∙ append_assoc (take j ps) (p ∷ []) (renewed (drop (j + 1) ps) rs)

-- as many pieces as inputs
pub pieces_length : {T S : Type 0} (seen : T → S) (r : Fold S) (s : S) (ps : List (Page T)) → Holds seen r s ps → length (all_pieces ps) ≡ count_in ps
pieces_length seen r s ps h = ap length (pieces_are seen r s ps h) ∙ pieces_count r s (all_inputs ps) ∙ inputs_count ps

pub take_front : {A : Type 0} (xs ys : List A) (n : ℕ) → n ≡ length xs → take n (xs ++ ys) ≡ xs
take_front xs ys n e = ap (λ z. take z (xs ++ ys)) e ∙ take-append_seam xs ys

pub drop_front : {A : Type 0} (xs ys : List A) (n : ℕ) → n ≡ length xs → drop n (xs ++ ys) ≡ ys
drop_front xs ys n e = ap (λ z. drop z (xs ++ ys)) e ∙ drop-append_seam xs ys

-- the change of an edit that changed the pages `gs` to `fs`
pub change_is : {T S : Type 0} (seen : T → S) (r : Fold S) (s : S) (as' gs fs ds : List (Page T)) (c : Change) (p put cut : ℕ) → Holds seen r s (as' ++ (gs ++ ds)) → Holds seen r s (as' ++ (fs ++ ds)) → c.from ≡ count_in as' → c.cut ≡ count_in gs → c.put ≡ count_in fs → p ≤ c.from + 64 → c.from ≤ p → c.put + cut ≡ c.cut + put → (IsTrue c.closed → ds ≡ []) → IsListChange c (all_pieces (as' ++ (gs ++ ds))) (all_pieces (as' ++ (fs ++ ds))) p put cut
change_is seen r s as' gs fs ds c p put cut h k e f g near before grown closing =
    let a = all_pieces as' in
    let d = all_pieces ds in
    let ha = holds_left seen r s as' (gs ++ ds) h in
    let hg = holds_left seen r (kept_of seen s as') gs ds (holds_right seen r s as' (gs ++ ds) h) in
    let hf = holds_left seen r (kept_of seen s as') fs ds (holds_right seen r s as' (fs ++ ds) k) in
    let an : length a ≡ count_in as' = pieces_length seen r s as' ha in
    let gn : length (all_pieces gs) ≡ count_in gs = pieces_length seen r _ gs hg in
    let fn : length (all_pieces fs) ≡ count_in fs = pieces_length seen r _ fs hf in
    let was : all_pieces (as' ++ (gs ++ ds)) ≡ a ++ (all_pieces gs ++ d) = flat_map-append pieces_in as' (gs ++ ds) ∙ ap (λ z. a ++ z) (flat_map-append pieces_in gs ds) in
    let is : all_pieces (as' ++ (fs ++ ds)) ≡ a ++ (all_pieces fs ++ d) = flat_map-append pieces_in as' (fs ++ ds) ∙ ap (λ z. a ++ z) (flat_map-append pieces_in fs ds) in
    let fl : c.from ≡ length a = e ∙ sym an in
    let gl : c.from + c.cut ≡ length (a ++ all_pieces gs) = ap₂ (λ x y. x + y) fl (f ∙ sym gn) ∙ sym (length-append a (all_pieces gs)) in
    let pl : c.from + c.put ≡ length (a ++ all_pieces fs) = ap₂ (λ x y. x + y) fl (g ∙ sym fn) ∙ sym (length-append a (all_pieces fs)) in
    let wn : length (all_pieces (as' ++ (fs ++ ds))) ≡ length (a ++ all_pieces fs) + length d = ap length (is ∙ sym (append_assoc a (all_pieces fs) d)) ∙ length-append (a ++ all_pieces fs) d in
    record {
      near = near;
      before = before;
      grown = grown;
      within = omega arith;
      first = ap (take c.from) is ∙ take_front a (all_pieces fs ++ d) c.from fl ∙ sym (ap (take c.from) was ∙ take_front a (all_pieces gs ++ d) c.from fl);
      last = ap (drop (c.from + c.put)) (is ∙ sym (append_assoc a (all_pieces fs) d)) ∙ drop_front (a ++ all_pieces fs) d (c.from + c.put) pl
          ∙ sym (ap (drop (c.from + c.cut)) (was ∙ sym (append_assoc a (all_pieces gs) d)) ∙ drop_front (a ++ all_pieces gs) d (c.from + c.cut) gl);
      closing = λ t. let dn : length d ≡ 0 = ap (λ z. length (all_pieces z)) (closing t) in omega arith;
    }

pub kept_met : {T S : Type 0} (seen : T → S) (e k : S) (qs : List (Page T)) (rs : List (Rerun T)) → length rs ≤ length qs → exit_of seen e rs ≡ kept_of seen k (take (length rs) qs) → kept_of seen e (renewed qs rs) ≡ kept_of seen k qs
kept_met seen e k [] [] l m = m
kept_met seen e k [] (a ∷ rs) l m = absurd (omega arith)
kept_met seen e k (q ∷ qs) [] l m = refl
kept_met seen e k (q ∷ qs) (a ∷ rs) l m = let l' : length rs ≤ length qs = omega arith in kept_met seen (seen a.exit) (seen q.exit) qs rs l' m

pub kept_all : {T S : Type 0} (seen : T → S) (e : S) (qs : List (Page T)) (rs : List (Rerun T)) → length rs ≡ length qs → kept_of seen e (renewed qs rs) ≡ exit_of seen e rs
kept_all seen e [] [] n = refl
kept_all seen e [] (a ∷ rs) n = absurd (omega arith)
kept_all seen e (q ∷ qs) [] n = absurd (omega arith)
kept_all seen e (q ∷ qs) (a ∷ rs) n = let n' : length rs ≡ length qs = omega arith in kept_all seen (seen a.exit) qs rs n'

pub count_renewed : {T : Type 0} (qs : List (Page T)) (rs : List (Rerun T)) (n : ℕ) → count_in (take n (renewed qs rs)) ≡ count_in (take n qs)
count_renewed [] rs n = refl
count_renewed (q ∷ qs) [] n = refl
count_renewed (q ∷ qs) (a ∷ rs) zero = refl
count_renewed (q ∷ qs) (a ∷ rs) (suc n) = ap (λ z. length q.inputs.items + z) (count_renewed qs rs n)

pub sized_append : {T : Type 0} (ps qs : List (Page T)) → IsSized ps → IsSized qs → IsSized (ps ++ qs)
sized_append [] qs a b = b
sized_append (p ∷ ps) qs a b = (a.0, sized_append ps qs a.1 b)

pub sized_left : {T : Type 0} (ps qs : List (Page T)) → IsSized (ps ++ qs) → IsSized ps
sized_left [] qs h = tt
sized_left (p ∷ ps) qs h = (h.0, sized_left ps qs h.1)

pub sized_right : {T : Type 0} (ps qs : List (Page T)) → IsSized (ps ++ qs) → IsSized qs
sized_right [] qs h = h
sized_right (p ∷ ps) qs h = sized_right ps qs h.1

pub sized_renewed : {T : Type 0} (qs : List (Page T)) (rs : List (Rerun T)) → IsSized qs → IsSized (renewed qs rs)
sized_renewed [] rs h = h
sized_renewed (q ∷ qs) [] h = h
sized_renewed (q ∷ qs) (a ∷ rs) h = (h.0, sized_renewed qs rs h.1)

-- the number of inputs of an edited page
pub put_count : (xs put : List Val) (i cut : ℕ) → i + cut ≤ length xs → length (put_at xs i put cut) ≡ (i + length put) + (length xs - (i + cut))
put_count xs put i cut l =
    let li : i ≤ length xs = omega arith in
    let a : length (take i xs) ≡ i = length-take-le i xs li in
    let d : length (drop (i + cut) xs) ≡ length xs - (i + cut) = length-drop (i + cut) xs in
    length-append (map view (take i xs) ++ map view put) (map view (drop (i + cut) xs))
    ∙ ap₂ (λ x y. x + y) (length-append (map view (take i xs)) (map view put) ∙ ap₂ (λ x y. x + y) (map_length view (take i xs) ∙ a) (map_length view put)) (map_length view (drop (i + cut) xs) ∙ d)

-- an edited page, by what its inputs stand for
pub put_is : (xs put : List Val) (i cut : ℕ) → put_at xs i put cut ≡ (take i (map view xs) ++ map view put) ++ drop (i + cut) (map view xs)
put_is xs put i cut = ap₂ (λ x y. (x ++ map view put) ++ y) (sym (take-map view i xs)) (sym (drop-map view (i + cut) xs))

pub set_is : {A : Type 0} (xs : List A) (j : ℕ) (x : A) → j < length xs → set xs j x ≡ take j xs ++ (x ∷ drop (j + 1) xs)
set_is xs j x l =
    let m : j < j + 1 = omega arith in
    sym (take-append-drop (j + 1) (set xs j x)) ∙ ap₂ (λ y z. y ++ z) (take-set_at xs j (j + 1) x refl l) (drop-set-lt (j + 1) xs j x m) ∙ append_assoc (take j xs) (x ∷ []) (drop (j + 1) xs)
