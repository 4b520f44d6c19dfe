-- A move: what its two halves say of the whole.
use Rattle.std.proofs.Common.{◌≡◌, ℕ, zero, suc, ◌+◌, ◌-◌, ◌<◌, ◌≤◌, ◌⊎◌, inl, inr, List, [], ◌∷◌, ◌++◌, length, take, drop, get_or, refl, sym, ◌∙◌, ap, ap₂, subst, map, add-one, arith, get_or-append-add, take_all, IsTrue, IsErr, IfOk, Result, Ok, Err, Some, slice_get}
use Rattle.std.proofs.lemmas.Grind.{flat_map-append}
use Rattle.std.proofs.lemmas.List.{map-append}
use Rattle.std.proofs.lemmas.Option.{slice_get_read}
use Rattle.std.specs.List.{flat_map, replace_range}
use Rattle.jv_data.specs.Value.{Value}
use Rattle.jv_data.specs.View.{view}
use Rattle.jv_data.specs.declared.values.Val.{Val}
use Rattle.jq_pages.specs.Folds.{Fold, Rises}
use Rattle.jq_pages.specs.Pieces.{PieceView, piece_view}
use Rattle.jq_pages.specs.private.Cuts.{AreSplices}
use Rattle.jq_pages.specs.private.Moves.{IsShift, IsShiftStart, IsTarget, MayRise}
use Rattle.jq_pages.specs.private.Pages.{all_inputs, all_pieces, parts, IsFilled, IsFilledBut, IsFreePlace, IsHeld, IsPlace}
use Rattle.jq_pages.specs.private.Placed.{Resized}
use Rattle.jq_pages.specs.private.Reruns.{count_in, inputs_in}
use Rattle.jq_pages.specs.declared.changes.Moved.{Moved}
use Rattle.jq_pages.specs.declared.page.Page.{Page}
use Rattle.jq_pages.specs.declared.pieces.Piece.{Piece}
use Rattle.jq_pages.proofs.Applied.{here, moved_edit, split_at}
use Rattle.jq_pages.proofs.Edits.{inputs_count, map_length}
use Rattle.jq_pages.proofs.Filled.{held_again}
use Rattle.jq_pages.proofs.Grown.{get_left, get_map}
use Rattle.jq_pages.proofs.Parts.{parts_holds, parts_inputs, parts_sized}
use Rattle.jq_pages.proofs.Plain.{later_edit, still_rise}
use Rattle.jq_pages.proofs.Reruns.{count_take, count_more, count_part, rises_within}

pub element : {A : Type 0} (xs : List A) (i : ℕ) → i < length xs → (x : A) × (x ≡ get_or xs i x)
element [] i l = absurd (omega arith)
element (x ∷ xs) zero l = (x, refl)
element (x ∷ xs) (suc i) l = let l' : i < length xs = omega arith in element xs i l'

-- an input, by its place in the list of all
pub input_at : {T : Type 0} (ps : List (Page T)) (j at i : ℕ) (p : Page T) (w : Val) → j < length ps → p ≡ get_or ps j p → w ≡ get_or p.inputs.items at w → at < length p.inputs.items → count_in (take j ps) + at ≡ i → i < count_in ps → slice_get (all_inputs ps) i ≡ Some (view w)
input_at ps j at i p w l h e m n few =
    let a = all_inputs (take j ps) in
    let b = all_inputs (drop (j + 1) ps) in
    let k : at < length (inputs_in p) = subst (λ z. at < z) (sym (map_length view p.inputs.items)) m in
    let spot : length a + at ≡ i = ap (λ z. z + at) (inputs_count (take j ps)) ∙ n in
    slice_get_read (all_inputs ps) (count_in ps) i (view w) (sym (inputs_count ps)) few
    (sym (ap₂ (λ y z. get_or y z (view w)) (ap all_inputs (split_at ps j p l h) ∙ flat_map-append inputs_in (take j ps) (p ∷ drop (j + 1) ps)) (sym spot)
    ∙ get_or-append-add a (inputs_in p ++ b) at (view w)
    ∙ get_left (inputs_in p) b at (view w) k
    ∙ get_map view p.inputs.items at w
    ∙ ap view (sym e)))

-- the place is one of the list
pub spot_within : {T : Type 0} (ps : List (Page T)) (j at i : ℕ) (p : Page T) → j < length ps → p ≡ get_or ps j p → at < length p.inputs.items → count_in (take j ps) + at ≡ i → i < count_in ps
spot_within ps j at i p l h m n =
    let a : count_in (take (j + 1) ps) ≡ count_in (take j ps) + length p.inputs.items = count_more ps j p l h in
    let b : count_in (take (j + 1) ps) ≤ count_in ps = count_part ps (j + 1) in
    omega arith

-- ---- pages whose numbers of inputs changed at one page

not_zero : (n : ℕ) → suc n ≡ 0 → ⊥
not_zero n e = omega arith

zero_not : (n : ℕ) → 0 ≡ suc n → ⊥
zero_not n e = omega arith

pred : (n m : ℕ) → suc n ≡ suc m → n ≡ m
pred n m e = omega arith

pub count_before : {T : Type 0} (old new : List (Page T)) (j n : ℕ) → length new ≡ length old → ((m : ℕ) (d : Page T) → ¬ (m ≡ j) → length (get_or new m d).inputs.items ≡ length (get_or old m d).inputs.items) → n ≤ j → count_in (take n new) ≡ count_in (take n old)
count_before old new j zero s h l = refl
count_before [] [] j (suc n) s h l = refl
count_before [] (w ∷ ws) j (suc n) s h l = absurd (omega arith)
count_before (o ∷ os) [] j (suc n) s h l = absurd (omega arith)
count_before (o ∷ os) (w ∷ ws) zero (suc n) s h l = absurd (omega arith)
count_before (o ∷ os) (w ∷ ws) (suc j) (suc n) s h l =
    let s' : length ws ≡ length os = omega arith in
    let l' : n ≤ j = omega arith in
    ap₂ (λ x y. x + y) (h 0 o (zero_not j)) (count_before os ws j n s' (λ m d ne. h (suc m) d (λ e. ne (pred m j e))) l')

added_up : (a b x y more cut : ℕ) → a + cut ≡ b + more → x ≡ y → (a + x) + cut ≡ (b + y) + more
added_up a b x y more cut e f = omega arith

added_on : (a b x y more cut : ℕ) → a ≡ b → x + cut ≡ y + more → (a + x) + cut ≡ (b + y) + more
added_on a b x y more cut e f = omega arith

pub count_same : {T : Type 0} (old new : List (Page T)) (n : ℕ) → length new ≡ length old → ((m : ℕ) (d : Page T) → length (get_or new m d).inputs.items ≡ length (get_or old m d).inputs.items) → count_in (take n new) ≡ count_in (take n old)
count_same old new zero s h = refl
count_same [] [] (suc n) s h = refl
count_same [] (w ∷ ws) (suc n) s h = absurd (omega arith)
count_same (o ∷ os) [] (suc n) s h = absurd (omega arith)
count_same (o ∷ os) (w ∷ ws) (suc n) s h = let s' : length ws ≡ length os = omega arith in ap₂ (λ x y. x + y) (h 0 o) (count_same os ws n s' (λ m d. h (suc m) d))

pub count_after : {T : Type 0} (old new : List (Page T)) (j n more cut : ℕ) → j < length old → Resized old new j more cut → j < n → count_in (take n new) + cut ≡ count_in (take n old) + more
count_after old new j zero more cut f x l = absurd (omega arith)
count_after [] new j (suc n) more cut f x l = absurd (omega arith)
count_after (o ∷ os) [] j (suc n) more cut f x l = absurd (let s : 0 ≡ length (o ∷ os) = x.same in omega arith)
count_after (o ∷ os) (w ∷ ws) zero (suc n) more cut f x l =
    let s : length (w ∷ ws) ≡ length (o ∷ os) = x.same in
    let s' : length ws ≡ length os = omega arith in
    added_up _ _ _ _ more cut (x.here o) (count_same os ws n s' (λ m d. x.others (suc m) d (not_zero m)))
count_after (o ∷ os) (w ∷ ws) (suc j) (suc n) more cut f x l =
    let s : length (w ∷ ws) ≡ length (o ∷ os) = x.same in
    let s' : length ws ≡ length os = omega arith in
    let f' : j < length os = omega arith in
    let l' : j < n = omega arith in
    added_on _ _ _ _ more cut (x.others 0 o (zero_not j)) (count_after os ws j n more cut f' (record { same = s'; others = λ m d ne. x.others (suc m) d (λ e. ne (pred m j e)); here = λ d. x.here d }) l')

-- ---- pages that have an input

filled_all : {T : Type 0} (ps : List (Page T)) → ((n : ℕ) (d : Page T) → n < length ps → 0 < length (get_or ps n d).inputs.items) → IsFilled ps
filled_all [] h = tt
filled_all (p ∷ ps) h = (h 0 p (omega arith), filled_all ps (λ n d l. h (suc n) d (omega arith)))

filled_at : {T : Type 0} (ps : List (Page T)) (n : ℕ) (d : Page T) → IsFilled ps → n < length ps → 0 < length (get_or ps n d).inputs.items
filled_at [] n d h l = absurd (omega arith)
filled_at (p ∷ ps) zero d h l = h.0
filled_at (p ∷ ps) (suc n) d h l = let l' : n < length ps = omega arith in filled_at ps n d h.1 l'

but_all : {T : Type 0} (j : ℕ) (ps : List (Page T)) → ((n : ℕ) (d : Page T) → ¬ (n ≡ j) → n < length ps → 0 < length (get_or ps n d).inputs.items) → IsFilled (take j ps) × IsFilled (drop (suc j) ps)
but_all zero [] h = (tt, tt)
but_all (suc j) [] h = (tt, tt)
but_all zero (p ∷ ps) h = (tt, filled_all ps (λ n d l. h (suc n) d (not_zero n) (omega arith)))
but_all (suc j) (p ∷ ps) h =
    let x = but_all j ps (λ n d ne l. h (suc n) d (λ e. ne (pred n j e)) (omega arith)) in
    ((h 0 p (zero_not j) (omega arith), x.0), x.1)

but_at : {T : Type 0} (j : ℕ) (ps : List (Page T)) (n : ℕ) (d : Page T) → IsFilled (take j ps) × IsFilled (drop (suc j) ps) → ¬ (n ≡ j) → n < length ps → 0 < length (get_or ps n d).inputs.items
but_at j [] n d h ne l = absurd (omega arith)
but_at zero (p ∷ ps) zero d h ne l = absurd (ne refl)
but_at zero (p ∷ ps) (suc n) d h ne l = let l' : n < length ps = omega arith in filled_at ps n d h.1 l'
but_at (suc j) (p ∷ ps) zero d h ne l = h.0.0
but_at (suc j) (p ∷ ps) (suc n) d h ne l = let l' : n < length ps = omega arith in but_at j ps n d (h.0.1, h.1) (λ e. ne (ap suc e)) l'

same_or : (n m : ℕ) → (n ≡ m) ⊎ ¬ (n ≡ m)
same_or zero zero = inl refl
same_or zero (suc m) = inr (zero_not m)
same_or (suc n) zero = inr (not_zero n)
same_or (suc n) (suc m) = elim (same_or n m) [ inl e ↦ inl (ap suc e) | inr h ↦ inr (λ e. h (pred n m e)) ]

grown_one : (n m : ℕ) → n + 0 ≡ m + 1 → 0 < n
grown_one n m e = omega arith

kept_size : (n m k : ℕ) → n ≡ m → m ≡ k → 0 < k → 0 < n
kept_size n m k a b l = omega arith

-- Page `to` alone may have had no input; then page `from` alone may have none.
pub filled_moved : {T : Type 0} (old mid new : List (Page T)) (from to : ℕ) → Resized old mid from 0 1 → Resized mid new to 1 0 → IsFilledBut to old → IsFilledBut from new
filled_moved old mid new from to x y h =
    let was = subst (λ k. IsFilled (take to old) × IsFilled (drop k old)) (add-one to) h in
    let size : length new ≡ length old = y.same ∙ x.same in
    subst (λ k. IsFilled (take from new) × IsFilled (drop k new)) (sym (add-one from))
    (but_all from new (λ n d ne l. elim (same_or n to) [
      | inl e ↦ subst (λ k. 0 < length (get_or new k d).inputs.items) (sym e) (grown_one _ _ (y.here d))
      | inr k ↦ kept_size _ _ _ (y.others n d k) (x.others n d ne) (but_at to old n d was k (subst (λ z. n < z) size l))
    ]))

-- ---- what is held again, and how far the count rises

pub parts_held : {T S : Type 0} (seen : T → S) (r : Fold S) (s : S) (old new : List (Page T)) (t : Piece) → map parts new ≡ map parts old → IsHeld seen r s old t → IsHeld seen r s new t
parts_held seen r s old new t e h = held_again seen r s old new t h (parts_holds seen r s old new e h.holds) (parts_sized old new e h.sized) (parts_inputs old new e)

pub no_rise : {S : Type 0} (r : Fold S) (s : S) (old made : List Value) (p put cut i before : ℕ) → MayRise r s old made p put cut i before before
no_rise r s old made p put cut i before = ((λ q m. still_rise _ _), still_rise _ _)

pub rise_from : {S : Type 0} (r : Fold S) (s : S) (vs ws : List Value) (l o before after : ℕ) (v : Value) → ws ≡ vs → MayRise r s ws (replace_range ws l (l + 0) (v ∷ [])) l 1 0 o before after → MayRise r s vs (replace_range vs l (l + 0) (v ∷ [])) l 1 0 o before after
rise_from r s vs ws l o before after v e h = subst (λ z. MayRise r s z (replace_range z l (l + 0) (v ∷ [])) l 1 0 o before after) e h

-- ---- the halves

pub order : (n m : ℕ) → (n ≤ m) ⊎ (m < n)
order zero m = inl (omega arith)
order (suc n) zero = inr (omega arith)
order (suc n) (suc m) = elim (order n m) [ inl a ↦ inl (omega arith) | inr b ↦ inr (omega arith) ]

less_one : (a b at l : ℕ) → a + 1 ≡ b + 0 → b + at ≡ l + 1 → a + at ≡ l
less_one a b at l e f = omega arith

pub shift_there : {T : Type 0} (ps : List (Page T)) (j at k : ℕ) → IsPlace ps j at 0 1 → count_in (take j ps) + at ≡ k → (w : Val) × (slice_get (all_inputs ps) k ≡ Some (view w)) × ((v : Val) → ((d : Page T) (u : Val) → view v ≡ view (get_or (get_or ps j d).inputs.items at u)) → view v ≡ view w)
shift_there ps j at k x e =
    let q = here x in
    let l : at + 1 ≤ length q.0.inputs.items = subst (λ z. at + 1 ≤ length z.inputs.items) (sym q.1) (x.place q.0) in
    let m : at < length q.0.inputs.items = omega arith in
    let w = element q.0.inputs.items at m in (
      w.0,
      input_at ps j at k q.0 w.0 x.page q.1 w.1 m e (spot_within ps j at k q.0 x.page q.1 m e),
      λ v h. h q.0 w.0 ∙ ap (λ z. view (get_or z.inputs.items at w.0)) (sym q.1) ∙ ap view (sym w.1),
    )

pub shift_silent : {T S : Type 0} (r : Fold S) (s : S) (ps : List (Page T)) (j at k l i o before : ℕ) → IsPlace ps j at 0 1 → count_in (take j ps) + at ≡ k → IsShiftStart r s (all_inputs ps) k l i o before before
shift_silent r s ps j at k l i o before x e =
    let w = shift_there ps j at k x e in
    record {
      value = w.0;
      there = w.1;
      between = before;
      removal = no_rise r s _ _ k 0 1 i before;
      insertion = no_rise r s _ _ l 1 0 o before;
    }

pub shift_first : {T S : Type 0} (r : Fold S) (s : S) (ps : List (Page T)) (j at k l i o before after : ℕ) → IsPlace ps j at 0 1 → count_in (take j ps) + at ≡ k → MayRise r s (all_inputs ps) (replace_range (all_inputs ps) k (k + 1) []) k 0 1 i before after → IsShiftStart r s (all_inputs ps) k l i o before after
shift_first r s ps j at k l i o before after x e y =
    let w = shift_there ps j at k x e in
    record {
      value = w.0;
      there = w.1;
      between = after;
      removal = y;
      insertion = no_rise r s _ _ l 1 0 o after;
    }

pub shift_both : {T S : Type 0} (r r' : Fold S) (s : S) (ps : List (Page T)) (ws : List Value) (j at k l i o before between after : ℕ) (v : Val) → IsPlace ps j at 0 1 → count_in (take j ps) + at ≡ k → ((d : Page T) (u : Val) → view v ≡ view (get_or (get_or ps j d).inputs.items at u)) → r' ≡ r → ws ≡ replace_range (all_inputs ps) k (k + 1) []
    → MayRise r s (all_inputs ps) (replace_range (all_inputs ps) k (k + 1) []) k 0 1 i before between → MayRise r' s ws (replace_range ws l (l + 0) (view v ∷ [])) l 1 0 o between after → IsShiftStart r s (all_inputs ps) k l i o before after
shift_both r r' s ps ws j at k l i o before between after v x e h f g y z =
    let w = shift_there ps j at k x e in
    record {
      value = v;
      there = w.1 ∙ ap Some (sym (w.2 v h));
      between = between;
      removal = y;
      insertion = rise_from r s _ ws l o between after (view v) g (subst (λ t. MayRise t s ws (replace_range ws l (l + 0) (view v ∷ [])) l 1 0 o between after) f z);
    }

-- the place of the insertion, after the removal
pub target_spot : {T : Type 0} (ps qs : List (Page T)) (j page at l : ℕ) → j < length ps → IsTarget ps j page at l → Resized ps qs j 0 1 → count_in (take page qs) + at ≡ l
target_spot ps qs j page at l f x y =
    elim (order page j) [
      | inl a ↦ ap (λ n. n + at) (count_before ps qs j page y.same y.others a) ∙ x.before a
      | inr b ↦ less_one _ _ _ _ (count_after ps qs j page 0 1 f y b) (x.after b)
    ]

free_at : (at m n : ℕ) → at + 1 ≤ n → m + 1 ≡ n + 0 → at ≤ m
free_at at m n l e = omega arith

less_fits : (m n : ℕ) → n + 1 ≤ 64 → m + 1 ≡ n + 0 → m + 1 ≤ 64
less_fits m n l e = omega arith

-- the page of the insertion has the place free after the removal
pub target_free : {T : Type 0} (ps qs : List (Page T)) (j page at l : ℕ) → j < length ps → IsTarget ps j page at l → Resized ps qs j 0 1 → IsFreePlace qs l page at
target_free ps qs j page at l f x y = record {
  page = subst (λ n. page < n) (sym y.same) x.has;
  within = λ d.
      elim (same_or page j) [
        | inl e ↦ free_at at _ _ (x.here d e) (subst (λ z. length (get_or qs z d).inputs.items + 1 ≡ length (get_or ps z d).inputs.items + 0) (sym e) (y.here d))
        | inr n ↦ subst (λ m. at ≤ m) (sym (y.others page d n)) (x.within d n)
      ];
  fits = λ d.
      elim (same_or page j) [
        | inl e ↦ less_fits _ _ (x.fits d) (subst (λ z. length (get_or qs z d).inputs.items + 1 ≡ length (get_or ps z d).inputs.items + 0) (sym e) (y.here d))
        | inr n ↦ subst (λ m. m + 1 ≤ 64) (sym (y.others page d n)) (x.fits d)
      ];
  spot = target_spot ps qs j page at l f x y;
}

-- A refused move tells nothing.
pub none_told : {A E : Type 0} (result : Result A E) (P : A → Type 0) → IsErr result → IfOk result P
none_told (Ok a) P e = cc
none_told (Err x) P e = tt

-- how often a removal and an insertion start the filter of a plain fold
pub rise_one : (a b : ℕ) → Rises a b 0 → Rises a b 1
rise_one a b x = let p : a ≤ b = x.low in let q : b ≤ a + 0 = x.high in record { low = p; high = omega arith }

pub rise_both : (a b d : ℕ) → Rises a b 0 → Rises b d 1 → Rises a d 1
rise_both a b d x y =
    let p : a ≤ b = x.low in
    let q : b ≤ a + 0 = x.high in
    let r : b ≤ d = y.low in
    let s : d ≤ b + 1 = y.high in
    record { low = omega arith; high = omega arith }

pub count_less : {T : Type 0} (ps qs : List (Page T)) (j : ℕ) → j < length ps → Resized ps qs j 0 1 → count_in ps < 4294967296 → count_in qs < 4294967296
count_less ps qs j f y l =
    let n : length qs ≡ length ps = y.same in
    let whole : length qs ≤ length ps = omega arith in
    let a : count_in (take (length ps) qs) + 1 ≡ count_in (take (length ps) ps) + 0 = count_after ps qs j (length ps) 0 1 f y f in
    let b : count_in (take (length ps) ps) ≤ count_in ps = count_part ps (length ps) in
    let c : take (length ps) qs ≡ qs = take_all (length ps) qs whole in
    let d : count_in (take (length ps) qs) ≡ count_in qs = ap count_in c in
    omega arith

fits_in : (at n : ℕ) → at ≤ n → n + 1 ≤ 64 → at ≤ 64
fits_in at n l m = omega arith

fits_there : (at n : ℕ) → at + 1 ≤ n → n + 1 ≤ 64 → at ≤ 64
fits_there at n l m = omega arith

pub target_small : {T : Type 0} (ps : List (Page T)) (j page at l : ℕ) → IsTarget ps j page at l → at ≤ 64
target_small ps j page at l x =
    let d = (element ps page x.has).0 in
    elim (same_or page j) [
      | inl e ↦ fits_there _ _ (x.here d e) (x.fits d)
      | inr k ↦ fits_in _ _ (x.within d k) (x.fits d)
    ]

-- ---- the room for the insertion

page_end : {T : Type 0} (ps : List (Page T)) (j at n : ℕ) → IsPlace ps j at 0 1 → n < j → count_in (take (n + 1) ps) ≤ count_in (take j ps) + at
page_end ps j at n x l =
    let m : n + 1 ≤ j = omega arith in
    let a : count_in (take (n + 1) ps) ≤ count_in (take j ps) = count_take ps (n + 1) j m in
    omega arith

at_end : {T : Type 0} (ps : List (Page T)) (j at more cut : ℕ) → IsPlace ps j at more cut → count_in (take j ps) + (at + cut) ≤ count_in (take (j + 1) ps)
at_end ps j at more cut x =
    let q = here x in
    let l : at + cut ≤ length q.0.inputs.items = subst (λ z. at + cut ≤ length z.inputs.items) (sym q.1) (x.place q.0) in
    let a : count_in (take (j + 1) ps) ≡ count_in (take j ps) + length q.0.inputs.items = count_more ps j q.0 x.page q.1 in
    omega arith

-- Room for a place after input `k` is not before its page.
pub room_later : {T : Type 0} (ps : List (Page T)) (j i page at k l : ℕ) → IsPlace ps j i 0 1 → IsPlace ps page at 1 0 → count_in (take j ps) + i ≡ k → k ≤ l → count_in (take page ps) + at ≡ l + 1 → page < j → ⊥
room_later ps j i page at k l x y e m f b =
    let a : count_in (take page ps) + (at + 0) ≤ count_in (take (page + 1) ps) = at_end ps page at 1 0 y in
    let c : count_in (take (page + 1) ps) ≤ count_in (take j ps) + i = page_end ps j i page x b in
    omega arith

-- Room for a place before input `k` is not after its page.
pub room_earlier : {T : Type 0} (ps : List (Page T)) (j i page at k l : ℕ) → IsPlace ps j i 0 1 → count_in (take j ps) + i ≡ k → l < k → count_in (take page ps) + at ≡ l → j < page → ⊥
room_earlier ps j i page at k l x e m f b =
    let n : j + 1 ≤ page = omega arith in
    let a : count_in (take j ps) + (i + 1) ≤ count_in (take (j + 1) ps) = at_end ps j i 0 1 x in
    let c : count_in (take (j + 1) ps) ≤ count_in (take page ps) = count_take ps (j + 1) page n in
    omega arith

no_more : (n m : ℕ) → n + 0 ≤ m → n ≤ m
no_more n m l = omega arith

no_fit : (n : ℕ) → n + 1 ≤ 64 + 0 → n + 1 ≤ 64
no_fit n l = omega arith

below_or : (n m : ℕ) → n ≤ m → ¬ (n ≡ m) → n < m
below_or n m l ne = elim (order m n) [ inl a ↦ absurd (ne (omega arith)) | inr b ↦ b ]

earlier_place : (a at i k l n : ℕ) → a + i ≡ k → a + at ≡ l → l < k → i + 1 ≤ n → at + 1 ≤ n
earlier_place a at i k l n e f b c = omega arith

pub target_later : {T : Type 0} (ps : List (Page T)) (j i page at k l : ℕ) → IsPlace ps j i 0 1 → IsPlace ps page at 1 0 → count_in (take j ps) + i ≡ k → k ≤ l → count_in (take page ps) + at ≡ l + 1 → ¬ (page ≡ j) → IsTarget ps j page at l
target_later ps j i page at k l x y e m f ne = record {
  has = y.page;
  fits = λ d. no_fit _ (y.fits d);
  within = λ d n. no_more _ _ (y.place d);
  here = λ d n. absurd (ne n);
  before = λ b. absurd (room_later ps j i page at k l x y e m f (below_or page j b ne));
  after = λ b. f;
}

pub target_earlier : {T : Type 0} (ps : List (Page T)) (j i page at k l : ℕ) → IsPlace ps j i 0 1 → IsPlace ps page at 1 0 → count_in (take j ps) + i ≡ k → l < k → count_in (take page ps) + at ≡ l → IsTarget ps j page at l
target_earlier ps j i page at k l x y e m f = record {
  has = y.page;
  fits = λ d. no_fit _ (y.fits d);
  within = λ d n. no_more _ _ (y.place d);
  here = λ d n. earlier_place (count_in (take j ps)) at i k l _ e (ap (λ z. count_in (take z ps) + at) (sym n) ∙ f) m (subst (λ z. i + 1 ≤ length (get_or ps z d).inputs.items) (sym n) (x.place d));
  before = λ b. f;
  after = λ b. absurd (room_earlier ps j i page at k l x e m f b);
}

-- ---- a move after room was made for its insertion

abbrev vals_in : {T : Type 0} → List (Page T) → List Val
vals_in ps = flat_map (λ p. p.inputs.items) ps

vals_are : {T : Type 0} (ps : List (Page T)) → all_inputs ps ≡ map view (vals_in ps)
vals_are [] = refl
vals_are (p ∷ ps) = ap (λ z. inputs_in p ++ z) (vals_are ps) ∙ sym (map-append view p.inputs.items (vals_in ps))

pub an_input : {T : Type 0} (ps : List (Page T)) (k : ℕ) → k < count_in ps → (w : Val) × (slice_get (all_inputs ps) k ≡ Some (view w))
an_input ps k l =
    let n : length (vals_in ps) ≡ count_in ps = sym (map_length view (vals_in ps)) ∙ sym (ap length (vals_are ps)) ∙ inputs_count ps in
    let m : k < length (vals_in ps) = omega arith in
    let w = element (vals_in ps) k m in
    (w.0, slice_get_read (all_inputs ps) (count_in ps) k (view w.0) (sym (inputs_count ps)) l (ap view w.1 ∙ sym (get_map view (vals_in ps) k w.0) ∙ ap (λ z. get_or z k (view w.0)) (sym (vals_are ps))))

moved_rise : (start before between n m : ℕ) → Rises before between (n + m + 65) → start ≤ before → m ≤ 64 → Rises start (start + (between - before)) (n + 64 + 65)
moved_rise start before between n m x l f =
    let lo : before ≤ between = x.low in
    let hi : between ≤ before + (n + m + 65) = x.high in
    record { low = omega arith; high = omega arith }

later_rise : (start before between after n o at : ℕ) → Rises start before (64 - at) → before ≤ between → Rises between after (n + o + 65) → o ≤ at → at ≤ 64 → Rises (start + (between - before)) after (n + 64 + 65)
later_rise start before between after n o at x b y l f =
    let xl : start ≤ before = x.low in
    let xh : before ≤ start + (64 - at) = x.high in
    let yl : between ≤ after = y.low in
    let yh : after ≤ between + (n + o + 65) = y.high in
    record { low = omega arith; high = omega arith }

-- The steps that make room count for the insertion.
pub shift_room : {S : Type 0} (r r' : Fold S) (s : S) (vs vs' : List Value) (k l i o at start before after : ℕ) → r' ≡ r → vs' ≡ vs → Rises start before (64 - at) → i ≤ 64 → o ≤ at → at ≤ 64 → IsShiftStart r' s vs' k l i o before after → IsShiftStart r s vs k l 64 64 start after
shift_room r r' s vs vs' k l i o at start before after e f x a b c y =
    let z : IsShiftStart r s vs k l i o before after = subst (λ t. IsShiftStart t s vs k l i o before after) e (subst (λ t. IsShiftStart r' s t k l i o before after) f y) in
    record {
      value = z.value;
      there = z.there;
      between = start + (z.between - before);
      removal = (λ q m. moved_rise _ _ _ _ _ (z.removal.0 q m) x.low a, moved_rise _ _ _ _ _ z.removal.1 x.low a);
      insertion = (λ q m. later_rise _ _ _ _ _ _ _ x z.removal.1.low (z.insertion.0 q m) b c, later_rise _ _ _ _ _ _ _ x z.removal.1.low z.insertion.1 b c);
    }

room_fits : (n : ℕ) → 64 ≤ n + 64 + 65
room_fits n = omega arith

-- the same if no room is found
pub shift_no_room : {T S : Type 0} (r : Fold S) (s : S) (ps : List (Page T)) (k l start after : ℕ) → k < count_in ps → Rises start after 64 → IsShiftStart r s (all_inputs ps) k l 64 64 start after
shift_no_room r s ps k l start after m x =
    let w = an_input ps k m in
    record {
      value = w.0;
      there = w.1;
      between = start;
      removal = no_rise r s _ _ k 0 1 64 start;
      insertion = (λ q y. rises_within _ _ _ _ x (room_fits _), rises_within _ _ _ _ x (room_fits _));
    }

-- a move of pages that hold the same as others, before it and after it
pub shift_around : {T S : Type 0} (seen : T → S) (r r' : Fold S) (s : S) (head : PieceView) (old old' new new' : List (Page T)) (tail end : Piece) (k l : ℕ) (m : Moved) → r' ≡ r → all_inputs old' ≡ all_inputs old → all_pieces old' ≡ all_pieces old → all_inputs new' ≡ all_inputs new → all_pieces new' ≡ all_pieces new → IsShift seen r' s head old' new tail end k l m → IsShift seen r s head old new' tail end k l m
shift_around seen r r' s head old old' new new' tail end k l m e a b c d x = record {
  value = x.value;
  there = subst (λ z. slice_get z k ≡ Some (view x.value)) a x.there;
  middle = x.middle;
  close = x.close;
  held = subst (λ z. IsHeld seen z s x.middle x.close) e x.held;
  before = x.before;
  starts = x.starts;
  after = x.after;
  removal = moved_edit _ _ _ _ _ _ _ _ _ _ _ _ _ _ _ _ _ _ e refl a b x.removal;
  insertion = later_edit _ _ _ _ _ _ _ _ _ _ _ _ _ _ _ _ c d (moved_edit _ _ _ _ _ _ _ _ _ _ _ _ _ _ _ _ _ _ e refl refl refl x.insertion);
  one_removal = λ p. x.one_removal (subst (λ z. IsTrue z.plain) (sym e) p);
  one_insertion = λ p. x.one_insertion (subst (λ z. IsTrue z.plain) (sym e) p);
  first_tail = x.first_tail;
  last_tail = x.last_tail;
  cut = subst (λ z. AreSplices m.removal head z (all_pieces x.middle) (piece_view tail) (piece_view x.close)) b x.cut;
  put = subst (λ z. AreSplices m.insertion head (all_pieces x.middle) z (piece_view x.close) (piece_view end)) (sym d) x.put;
  between = x.between;
}
