-- Runs over pages: where they may stop.
use Rattle.std.proofs.Common.{◌≡◌, ℕ, zero, suc, ◌+◌, ◌-◌, ◌<◌, ◌≤◌, List, [], ◌∷◌, ◌++◌, length, take, drop, get_or, refl, sym, ◌∙◌, ap, ap₂, subst, arith, flat_map, take_all, set, length-append, length-drop, length-take-le, get_or-append-add, Bool, true, false, IsTrue}
use Rattle.std.proofs.lemmas.Grind.{take_at_read}
use Rattle.std.proofs.lemmas.List.{set-append_right}
use Rattle.jq_pages.specs.Folds.{Fold, Rises, state_after}
use Rattle.jq_pages.specs.private.Reruns.{IsRunOf, RunsOver, Holds, MeetsAt, exit_of, kept_of, count_in, renewed, inputs_in}
use Rattle.jq_pages.specs.declared.page.Page.{Page}
use Rattle.jq_pages.specs.declared.page.Rerun.{Rerun}
use Rattle.jq_pages.proofs.Folds.{state_append}

-- The cutoff: where the runs over the first pages end in the state that the pages keep there, the pages with these runs hold
-- the run from the new state.
pub cut_off : {T S : Type 0} (seen : T → S) (r : Fold S) (s s' : S) (ps : List (Page T)) (rs : List (Rerun T)) → Holds seen r s' ps → RunsOver seen r s ps rs → exit_of seen s rs ≡ kept_of seen s' (take (length rs) ps) → Holds seen r s (renewed ps rs)
cut_off seen r s s' [] rs h k e = tt
cut_off seen r s s' (p ∷ ps) [] h k e = subst (λ z. Holds seen r z (p ∷ ps)) (sym e) h
cut_off seen r s s' (p ∷ ps) (a ∷ rs) h k e = (k.0, cut_off seen r (seen a.exit) (seen p.exit) ps rs h.1 k.1 e)

-- Where the runs are over all pages, no state has to be met.
pub run_all : {T S : Type 0} (seen : T → S) (r : Fold S) (s : S) (ps : List (Page T)) (rs : List (Rerun T)) → RunsOver seen r s ps rs → length rs ≡ length ps → Holds seen r s (renewed ps rs)
run_all seen r s [] rs k e = tt
run_all seen r s (p ∷ ps) [] k e = absurd (omega arith)
run_all seen r s (p ∷ ps) (a ∷ rs) k e = (k.0, let e' : length rs ≡ length ps = omega arith in run_all seen r (seen a.exit) ps rs k.1 e')

pub exit_append : {T S : Type 0} (seen : T → S) (s : S) (rs qs : List (Rerun T)) → exit_of seen s (rs ++ qs) ≡ exit_of seen (exit_of seen s rs) qs
exit_append seen s [] qs = refl
exit_append seen s (a ∷ rs) qs = exit_append seen (seen a.exit) rs qs

pub kept_append : {T S : Type 0} (seen : T → S) (s : S) (ps qs : List (Page T)) → kept_of seen s (ps ++ qs) ≡ kept_of seen (kept_of seen s ps) qs
kept_append seen s [] qs = refl
kept_append seen s (p ∷ ps) qs = kept_append seen (seen p.exit) ps qs

-- a list that ends in its last element
pub ends_in : {A : Type 0} (xs : List A) (n : ℕ) (d : A) → length xs ≡ n + 1 → xs ≡ take n xs ++ get_or xs n d ∷ []
ends_in xs n d e =
    let l : n < length xs = omega arith in
    let m : length xs ≤ n + 1 = omega arith in
    sym (take_all (n + 1) xs m) ∙ (take_at_read xs n d l).1

pub exit_last : {T S : Type 0} (seen : T → S) (s : S) (rs : List (Rerun T)) (n : ℕ) (d : Rerun T) → length rs ≡ n + 1 → seen (get_or rs n d).exit ≡ exit_of seen s rs
exit_last seen s rs n d e = sym (ap (exit_of seen s) (ends_in rs n d e) ∙ exit_append seen s (take n rs) (get_or rs n d ∷ []))

pub kept_last : {T S : Type 0} (seen : T → S) (s : S) (ps : List (Page T)) (n : ℕ) (d : Page T) → length ps ≡ n + 1 → seen (get_or ps n d).exit ≡ kept_of seen s ps
kept_last seen s ps n d e = sym (ap (kept_of seen s) (ends_in ps n d e) ∙ kept_append seen s (take n ps) (get_or ps n d ∷ []))

-- the state after runs over pages is that after their inputs
pub exit_is : {T S : Type 0} (seen : T → S) (r : Fold S) (s : S) (ps : List (Page T)) (rs : List (Rerun T)) → RunsOver seen r s ps rs → exit_of seen s rs ≡ state_after r s (flat_map inputs_in (take (length rs) ps))
exit_is seen r s ps [] k = refl
exit_is seen r s [] (a ∷ rs) k = absurd k
exit_is seen r s (p ∷ ps) (a ∷ rs) k =
    exit_is seen r (seen a.exit) ps rs k.1
    ∙ ap (λ z. state_after r z (flat_map inputs_in (take (length rs) ps))) k.0.exit
    ∙ sym (state_append r s (inputs_in p) (flat_map inputs_in (take (length rs) ps)))

pub runs_fit : {T S : Type 0} (seen : T → S) (r : Fold S) (s : S) (ps : List (Page T)) (rs : List (Rerun T)) → RunsOver seen r s ps rs → length rs ≤ length ps
runs_fit seen r s ps [] k = omega arith
runs_fit seen r s [] (a ∷ rs) k = absurd k
runs_fit seen r s (p ∷ ps) (a ∷ rs) k = let h : length rs ≤ length ps = runs_fit seen r (seen a.exit) ps rs k.1 in omega arith

-- one more run
pub runs_more : {T S : Type 0} (seen : T → S) (r : Fold S) (s : S) (ps : List (Page T)) (rs : List (Rerun T)) (p : Page T) (a : Rerun T) → RunsOver seen r s ps rs → length rs < length ps → p ≡ get_or ps (length rs) p → IsRunOf seen r (exit_of seen s rs) (inputs_in p) a → RunsOver seen r s ps (rs ++ a ∷ [])
runs_more seen r s [] rs p a k l e h = absurd (omega arith)
runs_more seen r s (q ∷ ps) [] p a k l e h = (subst (λ z. IsRunOf seen r s (inputs_in z) a) e h, tt)
runs_more seen r s (q ∷ ps) (b ∷ rs) p a k l e h = (k.0, let l' : length rs < length ps = omega arith in runs_more seen r (seen b.exit) ps rs p a k.1 l' e h)

pub count_append : {T : Type 0} (ps qs : List (Page T)) → count_in (ps ++ qs) ≡ count_in ps + count_in qs
count_append [] qs = omega arith
count_append (p ∷ ps) qs = let h : count_in (ps ++ qs) ≡ count_in ps + count_in qs = count_append ps qs in omega arith

pub count_more : {T : Type 0} (ps : List (Page T)) (i : ℕ) (p : Page T) → i < length ps → p ≡ get_or ps i p → count_in (take (i + 1) ps) ≡ count_in (take i ps) + length p.inputs.items
count_more ps i p l e = ap count_in ((take_at_read ps i p l).1 ∙ ap (λ z. take i ps ++ z ∷ []) (sym e)) ∙ count_append (take i ps) (p ∷ []) ∙ ap (λ z. count_in (take i ps) + z) (omega arith)

pub count_take : {T : Type 0} (ps : List (Page T)) (i j : ℕ) → i ≤ j → count_in (take i ps) ≤ count_in (take j ps)
count_take [] zero j l = omega arith
count_take [] (suc i) zero l = omega arith
count_take [] (suc i) (suc j) l = omega arith
count_take (p ∷ ps) zero j l = omega arith
count_take (p ∷ ps) (suc i) zero l = absurd (omega arith)
count_take (p ∷ ps) (suc i) (suc j) l = let l' : i ≤ j = omega arith in let h : count_in (take i ps) ≤ count_in (take j ps) = count_take ps i j l' in omega arith

pub count_part : {T : Type 0} (ps : List (Page T)) (i : ℕ) → count_in (take i ps) ≤ count_in ps
count_part [] zero = omega arith
count_part [] (suc i) = omega arith
count_part (p ∷ ps) zero = omega arith
count_part (p ∷ ps) (suc i) = let h : count_in (take i ps) ≤ count_in ps = count_part ps i in omega arith

pub rises_within : (a b i j : ℕ) → Rises a b i → i ≤ j → Rises a b j
rises_within a b i j h l = record { low = h.low; high = omega arith }

-- what a run over one more page adds
pub rises_page : {T : Type 0} (ps : List (Page T)) (i : ℕ) (p : Page T) (a b c : ℕ) → i < length ps → p ≡ get_or ps i p → Rises a b (count_in (take i ps)) → Rises b c (length p.inputs.items + 0 + 0) → Rises a c (count_in (take (i + 1) ps))
rises_page ps i p a b c l e x y =
    let m : count_in (take (i + 1) ps) ≡ count_in (take i ps) + length p.inputs.items = count_more ps i p l e in
    let xh : b ≤ a + count_in (take i ps) = x.high in
    let yh : c ≤ b + (length p.inputs.items + 0 + 0) = y.high in
    let xl : a ≤ b = x.low in
    let yl : b ≤ c = y.low in
    record { low = omega arith; high = omega arith }

-- a meeting after as many pages as runs
pub meets_here : {T S : Type 0} (seen : T → S) (r : Fold S) (s kept e k : S) (ps : List (Page T)) (rs : List (Rerun T)) (i : ℕ) → length rs ≡ i → RunsOver seen r s ps rs → e ≡ exit_of seen s rs → k ≡ kept_of seen kept (take i ps) → MeetsAt seen r s kept ps i → e ≡ k
meets_here seen r s kept e k ps rs i n over x y m =
    x ∙ exit_is seen r s ps rs over ∙ ap (λ z. state_after r s (flat_map inputs_in (take z ps))) n ∙ m ∙ sym y

not_both : (b : Bool) → IsTrue b → b ≡ false → ⊥
not_both true u f = cc
not_both false u f = cc

not_below : (i t : ℕ) → (t < i → ⊥) → i ≤ t
not_below i t n = omega arith

-- what each time that a page was run again is known of the places before
pub apart_here : {T S : Type 0} (seen : T → S) (r : Fold S) (s kept : S) (ps : List (Page T)) (rs all : List (Rerun T)) (i : ℕ) (b : Bool) → length rs ≡ i → RunsOver seen r s ps rs → all ≡ rs → (exit_of seen s all ≡ kept_of seen kept (take (length all) ps) → IsTrue b) → b ≡ false → MeetsAt seen r s kept ps i → ⊥
apart_here seen r s kept ps rs all i b len over e t f h =
    let y : kept_of seen kept (take (length rs) ps) ≡ kept_of seen kept (take i ps) = ap (λ z. kept_of seen kept (take z ps)) len in
    let met : exit_of seen s rs ≡ kept_of seen kept (take (length rs) ps) = meets_here seen r s kept (exit_of seen s rs) (kept_of seen kept (take (length rs) ps)) ps rs i len over refl y h in
    let u : IsTrue b = t (subst (λ (z : List (Rerun _)). exit_of seen s z ≡ kept_of seen kept (take (length z) ps)) (sym e) met) in
    not_both b u f

pub rises_to : {T : Type 0} (P : ℕ → Type 0) (ps : List (Page T)) (i a b : ℕ) → ((t : ℕ) → t < i → P t → ⊥) → Rises a b (count_in (take i ps)) → (t : ℕ) → P t → Rises a b (count_in (take t ps))
rises_to P ps i a b apart h t p = rises_within a b _ _ h (count_take ps i t (not_below i t (λ l. apart t l p)))

pub renewed_none : {T : Type 0} (ps : List (Page T)) → renewed ps [] ≡ ps
renewed_none [] = refl
renewed_none (p ∷ ps) = refl

-- one more run put in place
pub renewed_more : {T : Type 0} (ps : List (Page T)) (rs : List (Rerun T)) (a : Rerun T) (d : Page T) → length rs < length ps → set (renewed ps rs) (length rs) (record { inputs = (get_or (renewed ps rs) (length rs) d).inputs; pieces = a.pieces; exit = a.exit }) ≡ renewed ps (rs ++ a ∷ [])
renewed_more [] rs a d l = absurd (omega arith)
renewed_more (p ∷ ps) [] a d l = ap (λ z. (record { inputs = p.inputs; pieces = a.pieces; exit = a.exit }) ∷ z) (sym (renewed_none ps))
renewed_more (p ∷ ps) (b ∷ rs) a d l = ap (λ z. (record { inputs = p.inputs; pieces = b.pieces; exit = b.exit }) ∷ z) (let l' : length rs < length ps = omega arith in renewed_more ps rs a d l')

pub renewed_length : {T : Type 0} (ps : List (Page T)) (rs : List (Rerun T)) → length (renewed ps rs) ≡ length ps
renewed_length [] rs = refl
renewed_length (p ∷ ps) [] = refl
renewed_length (p ∷ ps) (a ∷ rs) = ap suc (renewed_length ps rs)

set_after : {A : Type 0} (xs ys : List A) (n : ℕ) (v : A) → set (xs ++ ys) (length xs + n) v ≡ xs ++ set ys n v
set_after xs ys n v =
    let l : length xs ≤ length xs + n = omega arith in
    let e : (length xs + n) - length xs ≡ n = omega arith in
    set-append_right xs ys (length xs) (length xs + n) v refl l ∙ ap (λ z. xs ++ set ys z v) e

placed_count : {A : Type 0} (rs rest all : List A) (a : A) → rs ++ a ∷ rest ≡ all → length rs + (length rest + 1) ≡ length all
placed_count rs rest all a w =
    let n : length (rs ++ a ∷ rest) ≡ length rs + length (a ∷ rest) = length-append rs (a ∷ rest) in
    let k : length (rs ++ a ∷ rest) ≡ length all = ap length w in
    omega arith

-- one more run put in place after other pages
pub placed_more : {T : Type 0} (ps qs : List (Page T)) (from at : ℕ) (rs all : List (Rerun T)) (rest : List (Rerun T)) (a : Rerun T) (p : Page T) → from + length all ≤ length ps → qs ≡ take from ps ++ renewed (drop from ps) rs → at ≡ from + length rs → rs ++ a ∷ rest ≡ all → p ≡ get_or qs at p → set qs at (record { inputs = p.inputs; pieces = a.pieces; exit = a.exit }) ≡ take from ps ++ renewed (drop from ps) (rs ++ a ∷ [])
placed_more ps qs from at rs all rest a p l e m w h =
    let x = renewed (drop from ps) rs in
    let n : length rs + (length rest + 1) ≡ length all = placed_count rs rest all a w in
    let d : length (drop from ps) ≡ length ps - from = length-drop from ps in
    let fits : length rs < length (drop from ps) = omega arith in
    let le : from ≤ length ps = omega arith in
    let place : at ≡ length (take from ps) + length rs = m ∙ ap (λ z. z + length rs) (sym (length-take-le from ps le)) in
    let here : p ≡ get_or x (length rs) p = h ∙ ap₂ (λ z w. get_or z w p) e place ∙ get_or-append-add (take from ps) x (length rs) p in
    let v : Page _ → Page _ = λ q. record { inputs = q.inputs; pieces = a.pieces; exit = a.exit } in
    ap₂ (λ z w. set z w (v p)) e place
    ∙ set_after (take from ps) x (length rs) (v p)
    ∙ ap (λ z. take from ps ++ set x (length rs) (v z)) here
    ∙ ap (λ z. take from ps ++ z) (renewed_more (drop from ps) rs a p fits)

pub placed_length : {T : Type 0} (ps qs : List (Page T)) (from : ℕ) (rs : List (Rerun T)) → from ≤ length ps → qs ≡ take from ps ++ renewed (drop from ps) rs → length qs ≡ length ps
placed_length ps qs from rs l e =
    let a : length qs ≡ length (take from ps) + length (renewed (drop from ps) rs) = ap length e ∙ length-append (take from ps) (renewed (drop from ps) rs) in
    let b : length (renewed (drop from ps) rs) ≡ length (drop from ps) = renewed_length (drop from ps) rs in
    let c : length (drop from ps) ≡ length ps - from = length-drop from ps in
    let d : length (take from ps) ≡ from = length-take-le from ps l in
    omega arith
