-- A page that is divided into two: the pages hold the same.
use Rattle.std.proofs.Common.{◌≡◌, ℕ, zero, suc, ◌+◌, ◌-◌, ◌<◌, ◌≤◌, List, [], ◌∷◌, ◌++◌, length, take, drop, get_or, refl, sym, ◌∙◌, ap, ap₂, subst, map, arith, append_assoc, length-append, length-drop, length-take-le, take-append-drop, set}
use Rattle.std.proofs.lemmas.Grind.{flat_map-append, take-set_at}
use Rattle.std.proofs.lemmas.List.{map-append, take-map, drop-map, drop-set-lt}
use Rattle.jv_data.specs.Value.{Value}
use Rattle.jv_data.specs.View.{view}
use Rattle.jq_pages.specs.Pieces.{PieceView, piece_view}
use Rattle.jq_pages.specs.Folds.{Fold, Rises, state_after, pieces_after}
use Rattle.jq_pages.specs.private.Reruns.{IsRun, Holds, kept_of, count_in, inputs_in, pieces_in}
use Rattle.jq_pages.specs.private.Pages.{all_inputs, all_pieces, IsSized}
use Rattle.jq_pages.specs.private.Placed.{Opened, Divided, Halved}
use Rattle.jq_pages.specs.declared.page.Page.{Page}
use Rattle.jv_data.specs.declared.values.Val.{Val}
use Rattle.jq_pages.proofs.Folds.{state_append, pieces_append}
use Rattle.jq_pages.proofs.Reruns.{count_more, count_append}
use Rattle.jq_pages.proofs.Edits.{around, holds_left, holds_right, holds_append, map_length, pieces_count, sized_append, sized_left, sized_right, take_front, drop_front}

old_is : {T : Type 0} (old new : List (Page T)) (j : ℕ) (m : T) (x : Divided old new j m) → j < length old → old ≡ take j old ++ (get_or old j x.one ∷ drop (j + 1) old)
old_is old new j m x l = around old j x.one l

inputs_joined : {T : Type 0} (old new : List (Page T)) (j : ℕ) (m : T) (x : Divided old new j m) → inputs_in x.one ++ inputs_in x.two ≡ inputs_in (get_or old j x.one)
inputs_joined old new j m x =
    let xs = (get_or old j x.one).inputs.items in
    ap₂ (λ y z. map view y ++ map view z) x.inputs x.later_inputs ∙ sym (map-append view (take 32 xs) (drop 32 xs)) ∙ ap (map view) (take-append-drop 32 xs)

pub divided_inputs : {T : Type 0} (old new : List (Page T)) (j : ℕ) (m : T) → Divided old new j m → j < length old → all_inputs new ≡ all_inputs old
divided_inputs old new j m x l =
    let a = take j old in
    let d = drop (j + 1) old in
    ap all_inputs x.list ∙ flat_map-append inputs_in a (x.one ∷ x.two ∷ d)
    ∙ ap (λ z. all_inputs a ++ z) (sym (append_assoc (inputs_in x.one) (inputs_in x.two) (all_inputs d)) ∙ ap (λ z. z ++ all_inputs d) (inputs_joined old new j m x))
    ∙ sym (ap all_inputs (old_is old new j m x l) ∙ flat_map-append inputs_in a (get_or old j x.one ∷ d))

-- a run that is cut in two
run_first : {S : Type 0} (r : Fold S) (s t : S) (xs : List Value) (ps : List PieceView) (n : ℕ) → n ≤ length xs → ps ≡ pieces_after r s xs → t ≡ state_after r s (take n xs) → IsRun r s (take n xs) (take n ps) t
run_first r s t xs ps n l e f =
    let k : length (pieces_after r s (take n xs)) ≡ n = pieces_count r s (take n xs) ∙ length-take-le n xs l in
    record {
      pieces = ap (take n) (e ∙ ap (pieces_after r s) (sym (take-append-drop n xs)) ∙ pieces_append r s (take n xs) (drop n xs)) ∙ take_front (pieces_after r s (take n xs)) (pieces_after r (state_after r s (take n xs)) (drop n xs)) n (sym k);
      exit = f;
    }

run_last : {S : Type 0} (r : Fold S) (s t u : S) (xs : List Value) (ps : List PieceView) (n : ℕ) → n ≤ length xs → IsRun r s xs ps u → t ≡ state_after r s (take n xs) → IsRun r t (drop n xs) (drop n ps) u
run_last r s t u xs ps n l e f =
    let k : length (pieces_after r s (take n xs)) ≡ n = pieces_count r s (take n xs) ∙ length-take-le n xs l in
    record {
      pieces = ap (drop n) (e.pieces ∙ ap (pieces_after r s) (sym (take-append-drop n xs)) ∙ pieces_append r s (take n xs) (drop n xs)) ∙ drop_front (pieces_after r s (take n xs)) (pieces_after r (state_after r s (take n xs)) (drop n xs)) n (sym k) ∙ ap (λ z. pieces_after r z (drop n xs)) (sym f);
      exit = e.exit ∙ ap (state_after r s) (sym (take-append-drop n xs)) ∙ state_append r s (take n xs) (drop n xs) ∙ ap (λ z. state_after r z (drop n xs)) (sym f);
    }

pub divided_holds : {T S : Type 0} (seen : T → S) (r : Fold S) (s : S) (old new : List (Page T)) (j : ℕ) (m : T) (x : Divided old new j m) → j < length old → 32 ≤ length (get_or old j x.one).inputs.items → seen m ≡ state_after r (kept_of seen s (take j old)) (map view (take 32 (get_or old j x.one).inputs.items)) → Holds seen r s old → Holds seen r s new
divided_holds seen r s old new j m x l long e h =
    let a = take j old in
    let d = drop (j + 1) old in
    let p = get_or old j x.one in
    let k = subst (λ z. Holds seen r s z) (old_is old new j m x l) h in
    let at = kept_of seen s a in
    let there = holds_right seen r s a (p ∷ d) k in
    let n : length (inputs_in p) ≡ length p.inputs.items = map_length view p.inputs.items in
    let long' : 32 ≤ length (inputs_in p) = omega arith in
    let mid : seen x.one.exit ≡ state_after r at (take 32 (inputs_in p)) = ap seen x.middle_exit ∙ e ∙ ap (state_after r at) (sym (take-map view 32 p.inputs.items)) in
    let f1 : inputs_in x.one ≡ take 32 (inputs_in p) = ap (map view) x.inputs ∙ sym (take-map view 32 p.inputs.items) in
    let f2 : inputs_in x.two ≡ drop 32 (inputs_in p) = ap (map view) x.later_inputs ∙ sym (drop-map view 32 p.inputs.items) in
    let g1 : pieces_in x.one ≡ take 32 (pieces_in p) = ap (map piece_view) x.pieces ∙ sym (take-map piece_view 32 p.pieces.items.items) in
    let g2 : pieces_in x.two ≡ drop 32 (pieces_in p) = ap (map piece_view) x.later_pieces ∙ sym (drop-map piece_view 32 p.pieces.items.items) in
    let one : IsRun r at (inputs_in x.one) (pieces_in x.one) (seen x.one.exit) =
    subst (λ z. IsRun r at z (pieces_in x.one) (seen x.one.exit)) (sym f1) (subst (λ z. IsRun r at (take 32 (inputs_in p)) z (seen x.one.exit)) (sym g1) (run_first r at (seen x.one.exit) (inputs_in p) (pieces_in p) 32 long' there.0.pieces mid)) in
    let two : IsRun r (seen x.one.exit) (inputs_in x.two) (pieces_in x.two) (seen p.exit) =
    subst (λ z. IsRun r (seen x.one.exit) z (pieces_in x.two) (seen p.exit)) (sym f2) (subst (λ z. IsRun r (seen x.one.exit) (drop 32 (inputs_in p)) z (seen p.exit)) (sym g2) (run_last r at (seen x.one.exit) (seen p.exit) (inputs_in p) (pieces_in p) 32 long' there.0 mid)) in
    subst (λ z. Holds seen r s z) (sym x.list)
    (holds_append seen r s a (x.one ∷ x.two ∷ d) (holds_left seen r s a (p ∷ d) k)
    (one, subst (λ z. IsRun r (seen x.one.exit) (inputs_in x.two) (pieces_in x.two) (seen z) × Holds seen r (seen z) d) (sym x.exit) (two, there.1)))

pub divided_sized : {T : Type 0} (old new : List (Page T)) (j : ℕ) (m : T) (x : Divided old new j m) → j < length old → 32 ≤ length (get_or old j x.one).inputs.items → IsSized old → IsSized new
divided_sized old new j m x l long z =
    let a = take j old in
    let d = drop (j + 1) old in
    let p = get_or old j x.one in
    let k = subst (λ z. IsSized z) (old_is old new j m x l) z in
    let there = sized_right a (p ∷ d) k in
    let n1 : length x.one.inputs.items ≡ 32 = ap (λ (w : List Val). length w) x.inputs ∙ length-take-le 32 p.inputs.items long in
    let n2 : length x.two.inputs.items ≡ length p.inputs.items - 32 = ap (λ (w : List Val). length w) x.later_inputs ∙ length-drop 32 p.inputs.items in
    let few : length p.inputs.items ≤ 64 = there.0 in
    let m1 : length x.one.inputs.items ≤ 64 = omega arith in
    let m2 : length x.two.inputs.items ≤ 64 = omega arith in
    subst (λ z. IsSized z) (sym x.list) (sized_append a (x.one ∷ x.two ∷ d) (sized_left a (p ∷ d) k) (m1, (m2, there.1)))

at_front : {A : Type 0} (as' : List A) (x d : A) (xs : List A) (j : ℕ) → j ≡ length as' → get_or (as' ++ (x ∷ xs)) j d ≡ x
at_front [] x d xs zero e = refl
at_front [] x d xs (suc j) e = absurd (omega arith)
at_front (a ∷ as') x d xs zero e = absurd (omega arith)
at_front (a ∷ as') x d xs (suc j) e = let e' : j ≡ length as' = omega arith in at_front as' x d xs j e'

pub divided_one : {T : Type 0} (old new : List (Page T)) (j : ℕ) (m : T) (x : Divided old new j m) (d : Page T) → j < length old → 32 ≤ length (get_or old j x.one).inputs.items → length (get_or new j d).inputs.items ≡ 32
divided_one old new j m x d l long =
    let lj : j ≤ length old = omega arith in
    ap (λ z. length (get_or z j d).inputs.items) x.list ∙ ap (λ z. length z.inputs.items) (at_front (take j old) x.one d (x.two ∷ drop (j + 1) old) j (sym (length-take-le j old lj)))
    ∙ ap (λ (w : List Val). length w) x.inputs ∙ length-take-le 32 (get_or old j x.one).inputs.items long

pub divided_two : {T : Type 0} (old new : List (Page T)) (j : ℕ) (m : T) (x : Divided old new j m) (d : Page T) → j < length old → length (get_or new (j + 1) d).inputs.items ≡ length (get_or old j x.one).inputs.items - 32
divided_two old new j m x d l =
    let lj : j ≤ length old = omega arith in
    let n2 : length (take j old) ≡ j = length-take-le j old lj in
    let e : j + 1 ≡ length (take j old ++ x.one ∷ []) = sym (length-append (take j old) (x.one ∷ []) ∙ omega arith) in
    ap (λ z. length (get_or z (j + 1) d).inputs.items) (x.list ∙ sym (append_assoc (take j old) (x.one ∷ []) (x.two ∷ drop (j + 1) old)))
    ∙ ap (λ z. length z.inputs.items) (at_front (take j old ++ x.one ∷ []) x.two d (drop (j + 1) old) (j + 1) e)
    ∙ ap (λ (w : List Val). length w) x.later_inputs ∙ length-drop 32 (get_or old j x.one).inputs.items

pub divided_count : {T : Type 0} (old new : List (Page T)) (j : ℕ) (m : T) (x : Divided old new j m) → j < length old → 32 ≤ length (get_or old j x.one).inputs.items → count_in (take (j + 1) new) ≡ count_in (take j old) + 32
divided_count old new j m x l long =
    let lj : j ≤ length old = omega arith in
    let n2 : length (take j old) ≡ j = length-take-le j old lj in
    let e : j + 1 ≡ length (take j old ++ x.one ∷ []) = sym (length-append (take j old) (x.one ∷ []) ∙ omega arith) in
    let n1 : length x.one.inputs.items ≡ 32 = ap (λ (w : List Val). length w) x.inputs ∙ length-take-le 32 (get_or old j x.one).inputs.items long in
    ap (λ z. count_in (take (j + 1) z)) (x.list ∙ sym (append_assoc (take j old) (x.one ∷ []) (x.two ∷ drop (j + 1) old)))
    ∙ ap count_in (take_front (take j old ++ x.one ∷ []) (x.two ∷ drop (j + 1) old) (j + 1) e)
    ∙ count_append (take j old) (x.one ∷ []) ∙ omega arith

-- the pages after one of them was set and one put in after it
pub set_and_put : {A : Type 0} (ps : List A) (j : ℕ) (a b : A) → j < length ps → take (j + 1) (set ps j a) ++ (b ∷ drop (j + 1) (set ps j a)) ≡ take j ps ++ (a ∷ b ∷ drop (j + 1) ps)
set_and_put ps j a b l =
    let m : j < j + 1 = omega arith in
    ap₂ (λ x y. x ++ (b ∷ y)) (take-set_at ps j (j + 1) a refl l) (drop-set-lt (j + 1) ps j a m) ∙ append_assoc (take j ps) (a ∷ []) (b ∷ drop (j + 1) ps)

-- the page that is divided has as many pieces as inputs
pub page_pieces : {T S : Type 0} (seen : T → S) (r : Fold S) (s : S) (old : List (Page T)) (j : ℕ) (d : Page T) → j < length old → Holds seen r s old → length (get_or old j d).pieces.items.items ≡ length (get_or old j d).inputs.items
page_pieces seen r s old j d l h =
    let a = take j old in
    let p = get_or old j d in
    let b = drop (j + 1) old in
    let there = (holds_right seen r s a (p ∷ b) (subst (λ z. Holds seen r s z) (around old j d l) h)).0 in
    sym (map_length piece_view p.pieces.items.items) ∙ ap length there.pieces ∙ pieces_count r (kept_of seen s a) (inputs_in p) ∙ map_length view p.inputs.items

-- an edit of the pages by a division, at once
pub halved_inputs : {T S : Type 0} (seen : T → S) (r : Fold S) (s : S) (old new : List (Page T)) (j : ℕ) → Halved seen r s old new j → j < length old → all_inputs new ≡ all_inputs old
halved_inputs seen r s old new j x l = divided_inputs old new j x.middle x.divided l

pub halved_holds : {T S : Type 0} (seen : T → S) (r : Fold S) (s : S) (old new : List (Page T)) (j : ℕ) (x : Halved seen r s old new j) → j < length old → ((d : Page T) → 32 ≤ length (get_or old j d).inputs.items) → Holds seen r s old → Holds seen r s new
halved_holds seen r s old new j x l long h = divided_holds seen r s old new j x.middle x.divided l (long x.divided.one) x.state h

pub halved_sized : {T S : Type 0} (seen : T → S) (r : Fold S) (s : S) (old new : List (Page T)) (j : ℕ) (x : Halved seen r s old new j) → j < length old → ((d : Page T) → 32 ≤ length (get_or old j d).inputs.items) → IsSized old → IsSized new
halved_sized seen r s old new j x l long z = divided_sized old new j x.middle x.divided l (long x.divided.one) z

pub halved_later : {T S : Type 0} (seen : T → S) (r : Fold S) (s : S) (old new : List (Page T)) (j i k : ℕ) (x : Halved seen r s old new j) → j < length old → ((d : Page T) → 32 ≤ length (get_or old j d).inputs.items) → count_in (take j old) + i ≡ k - 1 → 0 < k → 32 < i + 1 → count_in (take (j + 1) new) + ((i + 1) - 32) ≡ k
halved_later seen r s old new j i k x l long e n m =
    let b : count_in (take (j + 1) new) ≡ count_in (take j old) + 32 = divided_count old new j x.middle x.divided l (long x.divided.one) in
    omega arith

pub halved_within : {T S : Type 0} (seen : T → S) (r : Fold S) (s : S) (old new : List (Page T)) (j i : ℕ) (x : Halved seen r s old new j) (d : Page T) → j < length old → ((d : Page T) → 32 ≤ length (get_or old j d).inputs.items) → i + 1 ≤ 32 → i + 1 ≤ length (get_or new j d).inputs.items
halved_within seen r s old new j i x d l long m = let n : length (get_or new j d).inputs.items ≡ 32 = divided_one old new j x.middle x.divided d l (long x.divided.one) in omega arith

pub halved_fits : {T S : Type 0} (seen : T → S) (r : Fold S) (s : S) (old new : List (Page T)) (j : ℕ) (x : Halved seen r s old new j) (d : Page T) → j < length old → ((d : Page T) → 32 ≤ length (get_or old j d).inputs.items) → length (get_or new j d).inputs.items + 1 ≤ 64
halved_fits seen r s old new j x d l long = let n : length (get_or new j d).inputs.items ≡ 32 = divided_one old new j x.middle x.divided d l (long x.divided.one) in omega arith

pub later_within : {T S : Type 0} (seen : T → S) (r : Fold S) (s : S) (old new : List (Page T)) (j i : ℕ) (x : Halved seen r s old new j) (d : Page T) → j < length old → ((d : Page T) → i < length (get_or old j d).inputs.items) → (i + 1) - 32 ≤ length (get_or new (j + 1) d).inputs.items
later_within seen r s old new j i x d l has =
    let n : length (get_or new (j + 1) d).inputs.items ≡ length (get_or old j x.divided.one).inputs.items - 32 = divided_two old new j x.middle x.divided d l in
    let m : i < length (get_or old j x.divided.one).inputs.items = has x.divided.one in
    omega arith

pub later_fits : {T S : Type 0} (seen : T → S) (r : Fold S) (s : S) (old new : List (Page T)) (j : ℕ) (x : Halved seen r s old new j) (d : Page T) → j < length old → ((d : Page T) → length (get_or old j d).inputs.items ≤ 64) → length (get_or new (j + 1) d).inputs.items + 1 ≤ 64
later_fits seen r s old new j x d l few =
    let n : length (get_or new (j + 1) d).inputs.items ≡ length (get_or old j x.divided.one).inputs.items - 32 = divided_two old new j x.middle x.divided d l in
    let m : length (get_or old j x.divided.one).inputs.items ≤ 64 = few x.divided.one in
    omega arith

pub later_rise : (a b i n : ℕ) → Rises a b 32 → i < n → n ≤ 64 → Rises a b (64 - ((i + 1) - 32))
later_rise a b i n h l m = let lo : a ≤ b = h.low in let hi : b ≤ a + 32 = h.high in record { low = lo; high = omega arith }

-- an empty page: what the pages hold
pub opened_holds : {T S : Type 0} (seen : T → S) (r : Fold S) (s : S) (old new : List (Page T)) (j : ℕ) → Opened seen s old new j → Holds seen r s old → Holds seen r s new
opened_holds seen r s old new j x h =
    let k = subst (λ z. Holds seen r s z) (sym (take-append-drop j old)) h in
    let p : IsRun r (kept_of seen s (take j old)) (inputs_in x.page) (pieces_in x.page) (seen x.page.exit) = record {
      pieces = ap (λ z. map piece_view z) x.pieces ∙ sym (ap (λ z. pieces_after r (kept_of seen s (take j old)) (map view z)) x.inputs);
      exit = x.exit ∙ sym (ap (λ z. state_after r (kept_of seen s (take j old)) (map view z)) x.inputs);
    } in
    subst (λ z. Holds seen r s z) (sym x.list) (holds_append seen r s (take j old) (x.page ∷ drop j old) (holds_left seen r s (take j old) (drop j old) k)
    (p, subst (λ z. Holds seen r z (drop j old)) (sym x.exit) (holds_right seen r s (take j old) (drop j old) k)))

pieces_joined : {T : Type 0} (old new : List (Page T)) (j : ℕ) (m : T) (x : Divided old new j m) → pieces_in x.one ++ pieces_in x.two ≡ pieces_in (get_or old j x.one)
pieces_joined old new j m x =
    let xs = (get_or old j x.one).pieces.items.items in
    ap₂ (λ y z. map piece_view y ++ map piece_view z) x.pieces x.later_pieces ∙ sym (map-append piece_view (take 32 xs) (drop 32 xs)) ∙ ap (map piece_view) (take-append-drop 32 xs)

pub halved_pieces : {T S : Type 0} (seen : T → S) (r : Fold S) (s : S) (old new : List (Page T)) (j : ℕ) → Halved seen r s old new j → j < length old → all_pieces new ≡ all_pieces old
halved_pieces seen r s old new j y l =
    let x = y.divided in
    let a = take j old in
    let d = drop (j + 1) old in
    ap all_pieces x.list ∙ flat_map-append pieces_in a (x.one ∷ x.two ∷ d)
    ∙ ap (λ z. all_pieces a ++ z) (sym (append_assoc (pieces_in x.one) (pieces_in x.two) (all_pieces d)) ∙ ap (λ z. z ++ all_pieces d) (pieces_joined old new j y.middle x))
    ∙ sym (ap all_pieces (old_is old new j y.middle x l) ∙ flat_map-append pieces_in a (get_or old j x.one ∷ d))

-- the place after a page that ends there
pub full_place : {T : Type 0} (ps : List (Page T)) (j i k : ℕ) (p : Page T) → j < length ps → p ≡ get_or ps j p → length p.inputs.items ≡ i + 1 → count_in (take j ps) + i ≡ k - 1 → 0 < k → count_in (take (j + 1) ps) + 0 ≡ k
full_place ps j i k p l h n e z = let c : count_in (take (j + 1) ps) ≡ count_in (take j ps) + length p.inputs.items = count_more ps j p l h in omega arith
