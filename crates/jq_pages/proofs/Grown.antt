-- Pages that get one more input.
use Rattle.std.proofs.Common.{◌≡◌, ℕ, zero, suc, ◌+◌, ◌<◌, ◌≤◌, List, [], ◌∷◌, ◌++◌, length, take, drop, get_or, refl, sym, ◌∙◌, ap, ap₂, subst, map, arith, append-nil, length-append, take-append-drop, drop_of_length-le, get_or-append-add, set, Result, Ok, Err, OnOk, IsTrue}
use Rattle.std.proofs.lemmas.Grind.{flat_map-append}
use Rattle.std.proofs.lemmas.List.{map-append}
use Rattle.jv_data.specs.View.{view}
use Rattle.jq_pages.specs.Changes.{IsStart}
use Rattle.jq_pages.specs.Pieces.{piece_view}
use Rattle.jq_pages.specs.Folds.{Fold, Rises, state_after, pieces_after}
use Rattle.jq_pages.specs.private.Reruns.{IsRun, Holds, kept_of, count_in, inputs_in, pieces_in}
use Rattle.jq_pages.specs.private.Pages.{all_inputs, all_pieces, IsBegun, IsHeld, IsSized, IsFilled}
use Rattle.jq_pages.specs.private.Placed.{Grown}
use Rattle.jq_pages.specs.declared.page.Page.{Page}
use Rattle.jv_data.specs.declared.values.Val.{Val}
use Rattle.jq_pages.specs.declared.pieces.Piece.{Piece}
use Rattle.jq_pages.proofs.Folds.{state_append, pieces_append}
use Rattle.jq_pages.proofs.Reruns.{kept_append, ends_in}
use Rattle.jq_pages.proofs.Edits.{holds_left, holds_right, holds_append, kept_is, pieces_are, sized_append, sized_left, map_length, inputs_count, pieces_length, set_is}
use Rattle.jq_pages.proofs.Applied.{split_at}
use Rattle.jq_pages.proofs.Filled.{filled_append, filled_left}

pub grown_holds : {T S : Type 0} (seen : T → S) (r : Fold S) (s k : S) (old new : List (Page T)) (v : Val) (p : Piece) (e : T) → Grown old new v p e → k ≡ kept_of seen s old → piece_view p ≡ (r.step k (view v)).0 → seen e ≡ (r.step k (view v)).1 → Holds seen r s old → Holds seen r s new
grown_holds seen r s k old new v p e x at piece state h =
    let o = subst (λ z. Holds seen r s z) x.before h in
    let f = holds_left seen r s x.front x.last o in
    let b = kept_of seen s x.front in
    let l = holds_right seen r s x.front x.last o in
    let vs = all_inputs x.last in
    let here : k ≡ state_after r b vs = at ∙ ap (kept_of seen s) x.before ∙ kept_append seen s x.front x.last ∙ kept_is seen r b x.last l in
    let run : IsRun r b (inputs_in x.page) (pieces_in x.page) (seen x.page.exit) = record {
      pieces = x.pieces ∙ ap₂ (λ y z. y ++ z ∷ []) (pieces_are seen r b x.last l) (piece ∙ ap (λ z. (r.step z (view v)).0) here) ∙ sym (ap (pieces_after r b) x.inputs ∙ pieces_append r b vs (view v ∷ []));
      exit = ap seen x.state ∙ state ∙ ap (λ z. (r.step z (view v)).1) here ∙ sym (ap (state_after r b) x.inputs ∙ state_append r b vs (view v ∷ []));
    } in
    subst (λ z. Holds seen r s z) (sym x.after) (holds_append seen r s x.front (x.page ∷ []) f (run, tt))

pub grown_sized : {T : Type 0} (old new : List (Page T)) (v : Val) (p : Piece) (e : T) → Grown old new v p e → IsSized old → IsSized new
grown_sized old new v p e x h = subst (λ z. IsSized z) (sym x.after) (sized_append x.front (x.page ∷ []) (sized_left x.front x.last (subst (λ z. IsSized z) x.before h)) (x.few, tt))

pub grown_filled : {T : Type 0} (old new : List (Page T)) (v : Val) (p : Piece) (e : T) → Grown old new v p e → IsFilled old → IsFilled new
grown_filled old new v p e x h =
    let n : length x.page.inputs.items ≡ length (all_inputs x.last) + 1 = sym (map_length view x.page.inputs.items) ∙ ap length x.inputs ∙ length-append (all_inputs x.last) (view v ∷ []) in
    let m : 0 < length x.page.inputs.items = omega arith in
    subst (λ z. IsFilled z) (sym x.after) (filled_append x.front (x.page ∷ []) (filled_left x.front x.last (subst (λ z. IsFilled z) x.before h)) (m, tt))

-- a page that is added after the last one
pub page_added : {T : Type 0} (old new : List (Page T)) (p : Page T) (v : Val) (q : Piece) (e : T) → new ≡ old ++ p ∷ [] → p.inputs.items ≡ v ∷ [] → p.pieces.items.items ≡ q ∷ [] → p.exit ≡ e → Grown old new v q e
page_added old new p v q e l a b c = record {
  front = old;
  last = [];
  page = p;
  before = sym (append-nil old);
  after = l;
  inputs = ap (map view) a;
  pieces = ap (map piece_view) b;
  state = c;
  few = subst (λ (w : List Val). length w ≤ 64) (sym a) (omega arith);
}

-- the last page with one more input
pub page_more : {T : Type 0} (old new : List (Page T)) (j : ℕ) (p : Page T) (v : Val) (q : Piece) (e : T) → length old ≡ j + 1 → new ≡ take j old ++ p ∷ [] → p.inputs.items ≡ (get_or old j p).inputs.items ++ v ∷ [] → p.pieces.items.items ≡ (get_or old j p).pieces.items.items ++ q ∷ [] → p.exit ≡ e → ((d : Page T) → length (get_or old j d).inputs.items < 64) → Grown old new v q e
page_more old new j p v q e n l a b c few =
    let m : length p.inputs.items ≡ length (get_or old j p).inputs.items + 1 = ap (λ (w : List Val). length w) a ∙ length-append (get_or old j p).inputs.items (v ∷ []) in
    let k : length (get_or old j p).inputs.items < 64 = few p in
    record {
      front = take j old;
      last = get_or old j p ∷ [];
      page = p;
      before = ends_in old j p n;
      after = l;
      inputs = ap (map view) a ∙ map-append view (get_or old j p).inputs.items (v ∷ []) ∙ ap (λ z. z ++ view v ∷ []) (sym (append-nil (inputs_in (get_or old j p))));
      pieces = ap (map piece_view) b ∙ map-append piece_view (get_or old j p).pieces.items.items (q ∷ []) ∙ ap (λ z. z ++ piece_view q ∷ []) (sym (append-nil (pieces_in (get_or old j p))));
      state = c;
      few = omega arith;
    }

pub set_last : {A : Type 0} (xs : List A) (j : ℕ) (x : A) → length xs ≡ j + 1 → set xs j x ≡ take j xs ++ x ∷ []
set_last xs j x n =
    let l : j < length xs = omega arith in
    let m : length xs ≤ j + 1 = omega arith in
    set_is xs j x l ∙ ap (λ z. take j xs ++ (x ∷ z)) (drop_of_length-le xs m)

pub on_ok : {A E : Type 0} (P Q : Type 0) (r : Result A E) → OnOk r P → (P → Q) → OnOk r Q
on_ok P Q (Ok x) p f = f p
on_ok P Q (Err e) p f = tt

pub get_left : {A : Type 0} (xs ys : List A) (n : ℕ) (d : A) → n < length xs → get_or (xs ++ ys) n d ≡ get_or xs n d
get_left [] ys n d l = absurd (omega arith)
get_left (x ∷ xs) ys zero d l = refl
get_left (x ∷ xs) ys (suc n) d l = let l' : n < length xs = omega arith in get_left xs ys n d l'

pub get_map : {A B : Type 0} (f : A → B) (xs : List A) (n : ℕ) (d : A) → get_or (map f xs) n (f d) ≡ f (get_or xs n d)
get_map f [] zero d = refl
get_map f [] (suc n) d = refl
get_map f (x ∷ xs) zero d = refl
get_map f (x ∷ xs) (suc n) d = get_map f xs n d

-- a piece, by its place in the list of all
pub piece_at : {T : Type 0} (ps : List (Page T)) (j at i : ℕ) (p : Page T) (q : Piece) → j < length ps → p ≡ get_or ps j p → q ≡ get_or p.pieces.items.items at q → at < length p.pieces.items.items → length (all_pieces (take j ps)) + at ≡ i → piece_view q ≡ get_or (all_pieces ps) i (piece_view q)
piece_at ps j at i p q l h e m n =
    let a = all_pieces (take j ps) in
    let b = all_pieces (drop (j + 1) ps) in
    let k : at < length (pieces_in p) = subst (λ z. at < z) (sym (map_length piece_view p.pieces.items.items)) m in
    sym (ap₂ (λ y z. get_or y z (piece_view q)) (ap all_pieces (split_at ps j p l h) ∙ flat_map-append pieces_in (take j ps) (p ∷ drop (j + 1) ps)) (sym n)
    ∙ get_or-append-add a (pieces_in p ++ b) at (piece_view q)
    ∙ get_left (pieces_in p) b at (piece_view q) k
    ∙ get_map piece_view p.pieces.items.items at q
    ∙ ap piece_view (sym e))

-- as many pieces as inputs before a page
pub pieces_before : {T S : Type 0} (seen : T → S) (r : Fold S) (s : S) (ps : List (Page T)) (j : ℕ) → Holds seen r s ps → length (all_pieces (take j ps)) ≡ count_in (take j ps)
pieces_before seen r s ps j h = pieces_length seen r s (take j ps) (holds_left seen r s (take j ps) (drop j ps) (subst (λ z. Holds seen r s z) (sym (take-append-drop j ps)) h))

pub begun_by : {T S : Type 0} (seen : T → S) (r q : Fold S) (b : Piece) (t : T) → q ≡ r → piece_view b ≡ r.begin.0 → seen t ≡ r.begin.1 → IsBegun seen q b t
begun_by seen r q b t e x y = subst (λ z. IsBegun seen z b t) (sym e) (record { head = x; first = y })

pub held_by : {T S : Type 0} (seen : T → S) (r m q : Fold S) (s k : S) (ps : List (Page T)) (e : Piece) → m ≡ r → q ≡ m → Holds seen r s ps → IsSized ps → piece_view e ≡ m.close k → k ≡ kept_of seen s ps → IsHeld seen q s ps e
held_by seen r m q s k ps e a b h w x y = subst (λ z. IsHeld seen z s ps e) (sym b) (record { holds = subst (λ z. Holds seen z s ps) (sym a) h; sized = w; tail = x ∙ ap m.close y })

pub count_of : {T : Type 0} (ps : List (Page T)) (vs : List Val) (n m : ℕ) → n ≡ m → m ≡ length vs → all_inputs ps ≡ map view vs → n ≡ count_in ps
count_of ps vs n m a b e = a ∙ b ∙ sym (map_length view vs) ∙ sym (ap length e) ∙ inputs_count ps

-- ---- how often a start may start the filter

pub start_one : {S : Type 0} (r : Fold S) (n a b : ℕ) → Rises a b 1 → (IsTrue r.plain → b ≡ a) → IsStart r n a b
start_one r n a b x q =
    let lo : a ≤ b = x.low in
    let hi : b ≤ a + 1 = x.high in
    record {
      rises = record { low = lo; high = omega arith };
      plain = λ t. let e : b ≡ a = q t in record { low = lo; high = omega arith };
    }

pub start_two : {S : Type 0} (r : Fold S) (n a b c : ℕ) → Rises a b 1 → (IsTrue r.plain → b ≡ a) → Rises b c n → IsStart r n a c
start_two r n a b c x q y =
    let lx : a ≤ b = x.low in
    let hx : b ≤ a + 1 = x.high in
    let ly : b ≤ c = y.low in
    let hy : c ≤ b + n = y.high in
    record {
      rises = record { low = omega arith; high = omega arith };
      plain = λ t. let e : b ≡ a = q t in record { low = omega arith; high = omega arith };
    }

pub start_three : {S : Type 0} (r q : Fold S) (n a b c d : ℕ) → q ≡ r → Rises a b 1 → (IsTrue r.plain → b ≡ a) → Rises b c n → Rises c d 1 → (IsTrue q.plain → d ≡ c) → IsStart r n a d
start_three r q n a b c d same x i y z o =
    let lx : a ≤ b = x.low in
    let hx : b ≤ a + 1 = x.high in
    let ly : b ≤ c = y.low in
    let hy : c ≤ b + n = y.high in
    let lz : c ≤ d = z.low in
    let hz : d ≤ c + 1 = z.high in
    record {
      rises = record { low = omega arith; high = omega arith };
      plain = λ t. let e : b ≡ a = i t in let f : d ≡ c = o (subst (λ (w : Fold _). IsTrue w.plain) (sym same) t) in record { low = omega arith; high = omega arith };
    }
