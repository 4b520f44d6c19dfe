-- Edits where all states are equal: a piece depends on its input alone.
use Rattle.std.proofs.Common.{◌≡◌, ℕ, ◌+◌, ◌<◌, ◌≤◌, inl, List, [], ◌∷◌, ◌++◌, length, take, drop, get_or, refl, sym, ◌∙◌, ap, ap₂, subst, map, arith, append_assoc, length-append, length-take-le, take-append-drop, IsTrue, IsFalse, Bool, true, false, Result, Ok, Err, IsErr, Option, Some, None}
use Rattle.std.proofs.lemmas.Grind.{flat_map-append}
use Rattle.std.proofs.lemmas.List.{take-map, drop-map}
use Rattle.std.specs.List.{replace_range}
use Rattle.std.specs.Option.{option_to_list}
use Rattle.jv_data.specs.Value.{Value}
use Rattle.jv_data.specs.View.{view}
use Rattle.jq_pages.specs.Pieces.{PieceView, piece_view}
use Rattle.jq_pages.specs.Folds.{Fold, Rises, state_after, pieces_after}
use Rattle.jq_pages.specs.private.Reruns.{IsRunOf, Holds, kept_of, count_in, inputs_in, pieces_in}
use Rattle.jq_pages.specs.private.Pages.{all_inputs, all_pieces, IsSized, IsHeld}
use Rattle.jq_pages.specs.private.Placed.{put_at, Installed, Replaced}
use Rattle.jq_pages.specs.private.Edits.{IsListChange, IsListEdit, IsOneEdit}
use Rattle.jq_pages.specs.declared.page.Page.{Page}
use Rattle.jv_data.specs.declared.values.Val.{Val}
use Rattle.jq_pages.specs.declared.pieces.Piece.{Piece}
use Rattle.jq_pages.specs.declared.changes.Change.{Change}
use Rattle.jq_pages.proofs.Folds.{pieces_append}
use Rattle.jq_pages.proofs.Reruns.{renewed_none, count_append}
use Rattle.jq_pages.proofs.Edits.{holds_left, holds_right, mapped_edit, put_is, map_length, pieces_count, pieces_length, take_front, drop_front, same_default, edited_within}
use Rattle.jq_pages.proofs.Applied.{done_holds, done_inputs, done_sized, err_edit, ok_edit, split_at}

pub as_installed : {T : Type 0} (old new : List (Page T)) (j i cut : ℕ) (put : List Val) (qs : List Piece) (x : Replaced old new j i put qs cut) → Installed old new j i put cut (record { pieces = x.page.pieces; exit = x.page.exit }) []
as_installed old new j i cut put qs x = record {
  page = x.page;
  list = x.list ∙ ap (λ z. take j old ++ (x.page ∷ z)) (sym (renewed_none (drop (j + 1) old)));
  inputs = ap (map view) x.inputs ∙ mapped_edit view (take i (get_or old j x.page).inputs.items) put (drop (i + cut) (get_or old j x.page).inputs.items);
  pieces = refl;
  exit = refl;
}

-- the pieces of an edited list, where all states are equal
pieces_edited : {S : Type 0} (r : Fold S) (s t : S) (vs us : List Value) (i n : ℕ) → ((a b : S) → a ≡ b) → i ≤ length vs → n ≤ length vs → (take i (pieces_after r s vs) ++ pieces_after r t us) ++ drop n (pieces_after r s vs) ≡ pieces_after r s ((take i vs ++ us) ++ drop n vs)
pieces_edited r s t vs us i n alike l m =
    let f : (k : ℕ) → k ≤ length vs → length (pieces_after r s (take k vs)) ≡ k = λ k h. pieces_count r s (take k vs) ∙ length-take-le k vs h in
    let whole : (k : ℕ) → pieces_after r s vs ≡ pieces_after r s (take k vs) ++ pieces_after r (state_after r s (take k vs)) (drop k vs) = λ k. ap (pieces_after r s) (sym (take-append-drop k vs)) ∙ pieces_append r s (take k vs) (drop k vs) in
    let front : take i (pieces_after r s vs) ≡ pieces_after r s (take i vs) = ap (take i) (whole i) ∙ take_front (pieces_after r s (take i vs)) (pieces_after r (state_after r s (take i vs)) (drop i vs)) i (sym (f i l)) in
    let back : drop n (pieces_after r s vs) ≡ pieces_after r (state_after r s (take n vs)) (drop n vs) = ap (drop n) (whole n) ∙ drop_front (pieces_after r s (take n vs)) (pieces_after r (state_after r s (take n vs)) (drop n vs)) n (sym (f n m)) in
    ap₂ (λ x y. (x ++ pieces_after r t us) ++ y) front back
    ∙ ap₂ (λ x y. (pieces_after r s (take i vs) ++ pieces_after r x us) ++ pieces_after r y (drop n vs)) (alike t (state_after r s (take i vs))) (alike (state_after r s (take n vs)) (state_after r s (take i vs ++ us)))
    ∙ ap (λ z. z ++ pieces_after r (state_after r s (take i vs ++ us)) (drop n vs)) (sym (pieces_append r s (take i vs) us))
    ∙ sym (pieces_append r s (take i vs ++ us) (drop n vs))

pub plain_run : {T S : Type 0} (seen : T → S) (r : Fold S) (s t : S) (old new : List (Page T)) (j i cut : ℕ) (p : Page T) (put : List Val) (qs : List Piece) (x : Replaced old new j i put qs cut) → ((a b : S) → a ≡ b) → j < length old → p ≡ get_or old j p → i + cut ≤ length p.inputs.items → map piece_view qs ≡ pieces_after r t (map view put) → Holds seen r s old → IsRunOf seen r (kept_of seen s (take j old)) (put_at p.inputs.items i put cut) (record { pieces = x.page.pieces; exit = x.page.exit })
plain_run seen r s t old new j i cut p put qs x alike l h place e holds =
    let a = take j old in
    let b = drop (j + 1) old in
    let at = kept_of seen s a in
    let k = subst (λ z. Holds seen r s z) (split_at old j p l h) holds in
    let there = (holds_right seen r s a (p ∷ b) k).0 in
    let v = inputs_in p in
    let vn : length v ≡ length p.inputs.items = map_length view p.inputs.items in
    let li : i ≤ length v = omega arith in
    let lc : i + cut ≤ length v = omega arith in
    let d = same_default old j x.page p l ∙ sym h in
    record {
      pieces = ap (map piece_view) x.others
          ∙ ap (λ z. map piece_view ((take i z.pieces.items.items ++ qs) ++ drop (i + cut) z.pieces.items.items)) d
          ∙ mapped_edit piece_view (take i p.pieces.items.items) qs (drop (i + cut) p.pieces.items.items)
          ∙ ap₂ (λ y z. (y ++ map piece_view qs) ++ z) (sym (take-map piece_view i p.pieces.items.items)) (sym (drop-map piece_view (i + cut) p.pieces.items.items))
          ∙ ap₂ (λ y z. (take i y ++ z) ++ drop (i + cut) y) there.pieces e
          ∙ pieces_edited r at t v (map view put) i (i + cut) alike li lc
          ∙ ap (pieces_after r at) (sym (put_is p.inputs.items put i cut));
      exit = alike _ _;
    }

pub plain_holds : {T S : Type 0} (seen : T → S) (r : Fold S) (s t : S) (old new : List (Page T)) (j i cut : ℕ) (p : Page T) (put : List Val) (qs : List Piece) → Replaced old new j i put qs cut → ((a b : S) → a ≡ b) → j < length old → p ≡ get_or old j p → i + cut ≤ length p.inputs.items → map piece_view qs ≡ pieces_after r t (map view put) → Holds seen r s old → Holds seen r s new
plain_holds seen r s t old new j i cut p put qs x alike l h place e holds =
    done_holds seen r s (kept_of seen s (take j old)) old new j i cut p put _ [] (as_installed old new j i cut put qs x) l h holds refl
    (plain_run seen r s t old new j i cut p put qs x alike l h place e holds) tt (inl (alike _ _))

pub plain_inputs : {T : Type 0} (old new : List (Page T)) (j i cut : ℕ) (p : Page T) (put : List Val) (qs : List Piece) → Replaced old new j i put qs cut → j < length old → p ≡ get_or old j p → i + cut ≤ length p.inputs.items → all_inputs new ≡ replace_range (all_inputs old) (count_in (take j old) + i) ((count_in (take j old) + i) + cut) (map view put)
plain_inputs old new j i cut p put qs x l h place = done_inputs old new j i cut p put _ [] (as_installed old new j i cut put qs x) l h place

pub plain_sized : {T : Type 0} (old new : List (Page T)) (j i cut : ℕ) (p : Page T) (put : List Val) (qs : List Piece) → Replaced old new j i put qs cut → j < length old → p ≡ get_or old j p → i + cut ≤ length p.inputs.items → length p.inputs.items + length put ≤ 64 + cut → IsSized old → IsSized new
plain_sized old new j i cut p put qs x l h place few z = done_sized old new j i cut p put _ [] (as_installed old new j i cut put qs x) l h place few z

-- the pieces, in the list of all
pub pieces_replaced : {T S : Type 0} (seen : T → S) (r : Fold S) (s : S) (old new : List (Page T)) (j i cut : ℕ) (p : Page T) (put : List Val) (qs : List Piece) → Replaced old new j i put qs cut → j < length old → p ≡ get_or old j p → i + cut ≤ length p.pieces.items.items → Holds seen r s old → all_pieces new ≡ replace_range (all_pieces old) (count_in (take j old) + i) ((count_in (take j old) + i) + cut) (map piece_view qs)
pieces_replaced seen r s old new j i cut p put qs x l h place holds =
    let a = take j old in
    let b = drop (j + 1) old in
    let k = subst (λ z. Holds seen r s z) (split_at old j p l h) holds in
    let an : length (all_pieces a) ≡ count_in a = pieces_length seen r s a (holds_left seen r s a (p ∷ b) k) in
    let pn : length (pieces_in p) ≡ length p.pieces.items.items = map_length piece_view p.pieces.items.items in
    let lp : i + cut ≤ length (pieces_in p) = omega arith in
    let d = same_default old j x.page p l ∙ sym h in
    let here : pieces_in x.page ≡ (take i (pieces_in p) ++ map piece_view qs) ++ drop (i + cut) (pieces_in p) =
    ap (map piece_view) x.others ∙ ap (λ z. map piece_view ((take i z.pieces.items.items ++ qs) ++ drop (i + cut) z.pieces.items.items)) d
    ∙ mapped_edit piece_view (take i p.pieces.items.items) qs (drop (i + cut) p.pieces.items.items)
    ∙ ap₂ (λ y z. (y ++ map piece_view qs) ++ z) (sym (take-map piece_view i p.pieces.items.items)) (sym (drop-map piece_view (i + cut) p.pieces.items.items)) in
    ap all_pieces x.list ∙ flat_map-append pieces_in a (x.page ∷ b) ∙ ap (λ z. all_pieces a ++ (z ++ all_pieces b)) here
    ∙ sym (ap₂ (λ y z. replace_range y (z + i) ((z + i) + cut) (map piece_view qs)) (ap all_pieces (split_at old j p l h) ∙ flat_map-append pieces_in a (p ∷ b)) (sym an)
    ∙ edited_within (all_pieces a) (pieces_in p) (all_pieces b) (map piece_view qs) i cut lp)

never : (b : Bool) → IsTrue b → IsFalse b → ⊥
never true t f = cc
never false t f = cc

-- the change of one place
pub one_change : (c : Change) (was is qs : List PieceView) (p put cut : ℕ) → c.from ≡ p → c.put ≡ put → c.cut ≡ cut → IsFalse c.closed → length qs ≡ put → p + cut ≤ length was → is ≡ replace_range was p (p + cut) qs → IsListChange c was is p put cut
one_change c was is qs p put cut a b d f n l e =
    let lp : p ≤ length was = omega arith in
    let tn : length (take p was) ≡ p = length-take-le p was lp in
    let fn : length (take p was ++ qs) ≡ p + put = length-append (take p was) qs ∙ ap₂ (λ x y. x + y) tn n in
    let wn : length is ≡ length (take p was ++ qs) + length (drop (p + cut) was) = ap length e ∙ length-append (take p was ++ qs) (drop (p + cut) was) in
    let fp : c.from + c.put ≡ p + put = ap₂ (λ x y. x + y) a b in
    let fc : c.from + c.cut ≡ p + cut = ap₂ (λ x y. x + y) a d in
    record {
      near = omega arith;
      before = omega arith;
      grown = ap₂ (λ x y. x + y) b (sym d) ∙ omega arith;
      within = omega arith;
      first = ap (λ z. take z is) a ∙ ap (take p) (e ∙ append_assoc (take p was) qs (drop (p + cut) was)) ∙ take_front (take p was) (qs ++ drop (p + cut) was) p (sym tn) ∙ sym (ap (λ z. take z was) a);
      last = ap (λ z. drop z is) fp ∙ ap (drop (p + put)) e ∙ drop_front (take p was ++ qs) (drop (p + cut) was) (p + put) (sym fn) ∙ sym (ap (λ z. drop z was) fc);
      closing = λ t. absurd (never c.closed t f);
    }

few_rise : (a b n m : ℕ) → Rises a b n → n ≤ 1 → 1 ≤ m → Rises a b m
few_rise a b n m h l k = let lo : a ≤ b = h.low in let hi : b ≤ a + n = h.high in record { low = lo; high = omega arith }

some_more : (n : ℕ) → 1 ≤ n + 65
some_more n = omega arith

-- an edit of one place that is refused after it was run
pub plain_refused : {S E : Type 0} (r : Fold S) (s : S) (old made : List Value) (was : List PieceView) (p put cut i before after n : ℕ) (result : Result Change E) → IsErr result → Rises before after n → n ≤ 1 → IsListEdit r s old old made was was p put cut i before after result
plain_refused r s old made was p put cut i before after n result e rise few =
    err_edit r s old made was p put cut i before after result e (λ q m. few_rise before after n _ rise few (some_more _)) (few_rise before after n _ rise few (some_more _))

-- the same, of which only the place is told
pub one_refused : {E : Type 0} (p put cut before after : ℕ) (result : Result Change E) → IsErr result → Rises before after put → IsOneEdit p put cut before after result
one_refused p put cut before after (Ok c) e rise = cc
one_refused p put cut before after (Err x) e rise = record { change = tt; rises = rise }

-- an edit of one place
pub plain_edit : {T S E : Type 0} (seen : T → S) (r : Fold S) (s t : S) (old new : List (Page T)) (j i cut k : ℕ) (p : Page T) (put : List Val) (qs : List Piece) (c : Change) (before after : ℕ) → Replaced old new j i put qs cut → j < length old → p ≡ get_or old j p → i + cut ≤ length p.inputs.items → i + cut ≤ length p.pieces.items.items → count_in (take j old) + i ≡ k → k + cut ≤ length (all_pieces old) → map piece_view qs ≡ pieces_after r t (map view put) → Holds seen r s old → length put ≤ 1 → c.from ≡ k → c.put ≡ length put → c.cut ≡ cut → IsFalse c.closed → Rises before after (length put) → IsListEdit {E = E} r s (all_inputs old) (all_inputs new) (replace_range (all_inputs old) k (k + cut) (map view put)) (all_pieces old) (all_pieces new) k (length put) cut i before after (Ok c)
plain_edit seen r s t old new j i cut k p put qs c before after x l h place have spot lk e holds few a b d f rise =
    let qn : length (map piece_view qs) ≡ length put = ap length e ∙ pieces_count r t (map view put) ∙ map_length view put in
    ok_edit r s (all_inputs old) (all_inputs new) (replace_range (all_inputs old) k (k + cut) (map view put)) (all_pieces old) (all_pieces new) k (length put) cut i before after c
    (plain_inputs old new j i cut p put qs x l h place ∙ ap (λ z. replace_range (all_inputs old) z (z + cut) (map view put)) spot)
    (one_change c (all_pieces old) (all_pieces new) (map piece_view qs) k (length put) cut a b d f qn lk (pieces_replaced seen r s old new j i cut p put qs x l h have holds ∙ ap (λ z. replace_range (all_pieces old) z (z + cut) (map piece_view qs)) spot))
    (λ q m. let w : k + length put ≤ q = m.after in let fp : c.from + c.put ≡ k + length put = ap₂ (λ x y. x + y) a b in omega arith)
    (λ q m. few_rise before after (length put) _ rise few (some_more _))
    (few_rise before after (length put) _ rise few (some_more _))

pub plain_held : {T S : Type 0} (seen : T → S) (r : Fold S) (s : S) (old new : List (Page T)) (e : Piece) → ((a b : S) → a ≡ b) → IsHeld seen r s old e → Holds seen r s new → IsSized new → IsHeld seen r s new e
plain_held seen r s old new e alike h k z = record { holds = k; sized = z; tail = h.tail ∙ ap r.close (alike _ _) }

-- the place and its piece
pub one_spot : {T S : Type 0} (seen : T → S) (r : Fold S) (s : S) (old : List (Page T)) (j i cut k : ℕ) (p : Page T) → j < length old → p ≡ get_or old j p → i + cut ≤ length p.inputs.items → count_in (take j old) + i ≡ k → Holds seen r s old → k + cut ≤ length (all_pieces old)
one_spot seen r s old j i cut k p l h place spot holds =
    let n : length (all_pieces old) ≡ count_in old = pieces_length seen r s old holds in
    let o : count_in old ≡ count_in (take j old) + (length p.inputs.items + count_in (drop (j + 1) old)) = ap count_in (split_at old j p l h) ∙ count_append (take j old) (p ∷ drop (j + 1) old) in
    omega arith

pub option_few : {A : Type 0} (o : Option A) → length (option_to_list o) ≤ 1
option_few None = omega arith
option_few (Some x) = omega arith

-- an edit, after which pages changed that hold the same
pub later_edit : {S E : Type 0} (r : Fold S) (s : S) (old new new' made : List Value) (was is is' : List PieceView) (p put cut i before after : ℕ) (result : Result Change E) → new' ≡ new → is' ≡ is → IsListEdit r s old new made was is p put cut i before after result → IsListEdit r s old new' made was is' p put cut i before after result
later_edit r s old new new' made was is is' p put cut i before after result a b e =
    subst (λ z. IsListEdit r s old z made was is' p put cut i before after result) (sym a) (subst (λ z. IsListEdit r s old new made was z p put cut i before after result) (sym b) e)

pub not_closed : IsFalse false
not_closed = cc

pub still_rise : (a n : ℕ) → Rises a a n
still_rise a n = record { low = omega arith; high = omega arith }

pub one_more : {A : Type 0} (n : ℕ) (o : Option A) → n ≤ 64 → n + length (option_to_list o) ≤ 65
one_more n o h = let k : length (option_to_list o) ≤ 1 = option_few o in omega arith
