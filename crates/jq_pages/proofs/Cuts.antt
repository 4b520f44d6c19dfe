-- The splices of an edit, from the pieces around them.
use Rattle.std.proofs.Common.{◌≡◌, ℕ, suc, ◌+◌, ◌-◌, ◌<◌, ◌≤◌, ◌↔◌, List, [], ◌∷◌, ◌++◌, length, take, drop, get_or, refl, sym, ◌∙◌, ap, ap₂, subst, subst₂, map, arith, append_assoc, append-nil, length-append, take-append-drop, length-drop, length-take-le, Bool, true, false, IsTrue, IsFalse, Option, Some, None, IsSome, MatchOption}
use Rattle.std.proofs.lemmas.Grind.{flat_map-append, take_at_read}
use Rattle.std.proofs.lemmas.List.{drop-drop, take-append-le}
use Rattle.std.specs.List.{flat_map, replace_range}
use Rattle.std.specs.Option.{option_to_list}
use Rattle.jv_data.specs.declared.values.Val.{Val}
use Rattle.jq_pages.specs.Folds.{Fold}
use Rattle.jq_pages.specs.Pieces.{PieceView, piece_view}
use Rattle.jq_pages.specs.Splices.{IsSplice, spliced, closing}
use Rattle.jq_pages.specs.private.Cuts.{AddsBytes, HasBytes, IsCut, AreCut, AreSplices, closing_if}
use Rattle.jq_pages.specs.private.Pages.{all_pieces}
use Rattle.jq_pages.specs.private.Placed.{Installed, Replaced}
use Rattle.jq_pages.specs.private.Reruns.{Holds, count_in, kept_of, pieces_in, run_pieces, renewed}
use Rattle.jq_pages.specs.declared.changes.Change.{Change}
use Rattle.jq_pages.specs.declared.cutting.Bytes.{Bytes}
use Rattle.jq_pages.specs.declared.page.Page.{Page}
use Rattle.jq_pages.specs.declared.page.Rerun.{Rerun}
use Rattle.jq_pages.specs.declared.pieces.Piece.{Piece}
use Rattle.jq_pages.specs.declared.splices.Splice.{Splice}
use Rattle.jq_pages.specs.Totals.{totals}
use Rattle.jq_pages.specs.declared.totals.Totals.{Totals}
use Rattle.jq_pages.proofs.Sums.{err_is, out_is}
use Rattle.jq_pages.proofs.Edits.{cut_within, drop_within, drop_front, holds_left, holds_right, map_length, pieces_length, take_front}
use Rattle.jq_pages.proofs.Applied.{done_counts, split_at}
use Rattle.jq_pages.proofs.Plain.{pieces_replaced}

-- ---- a splice over joined bytes

replaced : (x y z w : List ℕ) (a b : ℕ) → a ≡ length x → b ≡ length y → replace_range (x ++ (y ++ z)) a (a + b) w ≡ x ++ (w ++ z)
replaced x y z w a b e f =
    let n : a + b ≡ length (x ++ y) = ap₂ (λ m k. m + k) e f ∙ sym (length-append x y) in
    ap₂ (λ u v. (u ++ w) ++ v) (take_front x (y ++ z) a e) (ap (drop (a + b)) (sym (append_assoc x y z)) ∙ drop_front (x ++ y) z (a + b) n)
    ∙ append_assoc x w z

bytes_three : (f : PieceView → List ℕ) (ps qs rs : List PieceView) → flat_map f (ps ++ (qs ++ rs)) ≡ flat_map f ps ++ (flat_map f qs ++ flat_map f rs)
bytes_three f ps qs rs = flat_map-append f ps (qs ++ rs) ∙ ap (λ z. flat_map f ps ++ z) (flat_map-append f qs rs)

splice_is : (f : PieceView → List ℕ) (s : Splice) (before gone come rest : List PieceView) → IsCut f s before gone come → IsSplice s (flat_map f (before ++ (gone ++ rest))) (flat_map f (before ++ (come ++ rest)))
splice_is f s before gone come rest h =
    let x = flat_map f before in
    let y = flat_map f gone in
    let z = flat_map f rest in
    let n : length (flat_map f (before ++ (gone ++ rest))) ≡ length x + (length y + length z) = ap length (bytes_three f before gone rest) ∙ length-append x (y ++ z) ∙ ap (λ n. length x + n) (length-append y z) in
    let a : s.at ≡ length x = h.at in
    let b : s.cut ≡ length y = h.cut in
    record {
      within = omega arith;
      turns = ap (λ w. spliced s w) (bytes_three f before gone rest)
          ∙ replaced x y z s.put.items s.at s.cut a b
          ∙ ap (λ w. x ++ (w ++ z)) h.put
          ∙ sym (bytes_three f before come rest);
    }

-- ---- all pieces around a change

-- what follows a change
abbrev following : Bool → PieceView → List PieceView → List PieceView
following false t zs = zs ++ t ∷ []
following true t zs = []

same_following : (closed : Bool) (t t' : PieceView) (zs zs' : List PieceView) → zs' ≡ zs → (IsFalse closed → t' ≡ t) → following closed t' zs' ≡ following closed t zs
same_following false t t' zs zs' e f = ap₂ (λ x y. x ++ y ∷ []) e (f cc)
same_following true t t' zs zs' e f = refl

three : {A : Type 0} (xs : List A) (n m : ℕ) → xs ≡ take n xs ++ (take m (drop n xs) ++ drop (n + m) xs)
three xs n m = sym (take-append-drop n xs) ∙ ap (λ z. take n xs ++ z) (sym (take-append-drop m (drop n xs)) ∙ ap (λ z. take m (drop n xs) ++ z) (drop-drop m n xs))

around_open : {A : Type 0} (a m z t : List A) → (a ++ (m ++ z)) ++ t ≡ a ++ ((m ++ []) ++ (z ++ t))
around_open a m z t = append_assoc a (m ++ z) t ∙ ap (λ w. a ++ w) (append_assoc m z t ∙ ap (λ w. w ++ (z ++ t)) (sym (append-nil m)))

around_closed : {A : Type 0} (a m z t : List A) → z ≡ [] → (a ++ (m ++ z)) ++ t ≡ a ++ ((m ++ t) ++ [])
around_closed a m z t e = ap (λ w. (a ++ (m ++ w)) ++ t) e ∙ ap (λ w. (a ++ w) ++ t) (append-nil m) ∙ append_assoc a m t ∙ ap (λ w. a ++ w) (sym (append-nil (m ++ t)))

parts : (closed : Bool) (h t : PieceView) (ps : List PieceView) (n m : ℕ) → (IsTrue closed → drop (n + m) ps ≡ []) → h ∷ (ps ++ (t ∷ [])) ≡ (h ∷ take n ps) ++ ((take m (drop n ps) ++ closing closed t) ++ following closed t (drop (n + m) ps))
parts false h t ps n m e = ap (λ z. h ∷ z) (ap (λ z. z ++ t ∷ []) (three ps n m) ∙ around_open (take n ps) (take m (drop n ps)) (drop (n + m) ps) (t ∷ []))
parts true h t ps n m e = ap (λ z. h ∷ z) (ap (λ z. z ++ t ∷ []) (three ps n m) ∙ around_closed (take n ps) (take m (drop n ps)) (drop (n + m) ps) (t ∷ []) (e cc))

-- the splice of a change
pub spliced_by : (f : PieceView → List ℕ) (s : Splice) (c : Change) (h t t' : PieceView) (was is : List PieceView)
    → take c.from is ≡ take c.from was → drop (c.from + c.put) is ≡ drop (c.from + c.cut) was → (IsTrue c.closed → drop (c.from + c.put) is ≡ []) → (IsFalse c.closed → t' ≡ t)
    → IsCut f s (h ∷ take c.from was) (take c.cut (drop c.from was) ++ closing c.closed t) (take c.put (drop c.from is) ++ closing c.closed t')
    → IsSplice s (flat_map f (h ∷ (was ++ (t ∷ [])))) (flat_map f (h ∷ (is ++ (t' ∷ []))))
spliced_by f s c h t t' was is first last empty kept x =
    let gone = take c.cut (drop c.from was) ++ closing c.closed t in
    let come = take c.put (drop c.from is) ++ closing c.closed t' in
    let old = parts c.closed h t was c.from c.cut (λ u. sym last ∙ empty u) in
    let new : h ∷ (is ++ (t' ∷ [])) ≡ (h ∷ take c.from was) ++ (come ++ following c.closed t (drop (c.from + c.cut) was)) =
    parts c.closed h t' is c.from c.put empty ∙ ap₂ (λ y z. (h ∷ y) ++ (come ++ z)) first (same_following c.closed t t' _ _ last kept) in
    subst₂ (λ y z. IsSplice s (flat_map f y) (flat_map f z)) (sym old) (sym new) (splice_is f s (h ∷ take c.from was) gone come _ x)

-- ---- the bytes of pieces

view_out : (p : Piece) → (piece_view p).out ≡ p.out.items
unfolding piece_view
view_out p = refl

view_err : (p : Piece) → (piece_view p).err ≡ p.err.items
unfolding piece_view
view_err p = refl

one_more : (f : PieceView → List ℕ) (ps qs : List PieceView) (p : PieceView) (old mid new bytes : List ℕ) → qs ≡ ps ++ p ∷ [] → mid ≡ old ++ flat_map f ps → f p ≡ bytes → new ≡ mid ++ bytes → new ≡ old ++ flat_map f qs
one_more f ps qs p old mid new bytes e m b n =
    n ∙ ap₂ (λ y z. y ++ z) m (sym b) ∙ append_assoc old (flat_map f ps) (f p)
    ∙ ap (λ z. old ++ z) (sym (ap (flat_map f) e ∙ flat_map-append f ps (p ∷ []) ∙ ap (λ z. flat_map f ps ++ z) (append-nil (f p))))

pub adds_one : (old mid new : Bytes) (ps qs : List PieceView) (p : Piece) → qs ≡ ps ++ piece_view p ∷ [] → AddsBytes old mid ps → new.out.items ≡ mid.out.items ++ p.out.items → new.err.items ≡ mid.err.items ++ p.err.items → AddsBytes old new qs
adds_one old mid new ps qs p e x a b = record {
  out = one_more (λ p. p.out) ps qs (piece_view p) _ _ _ _ e x.out (view_out p) a;
  err = one_more (λ p. p.err) ps qs (piece_view p) _ _ _ _ e x.err (view_err p) b;
}

pub adds_none : (b : Bytes) → AddsBytes b b []
adds_none b = record { out = sym (append-nil b.out.items); err = sym (append-nil b.err.items) }

pub adds_more : (old mid new : Bytes) (ps qs rs : List PieceView) → rs ≡ ps ++ qs → AddsBytes old mid ps → AddsBytes mid new qs → AddsBytes old new rs
adds_more old mid new ps qs rs e x y = record {
  out = y.out ∙ ap (λ z. z ++ flat_map (λ p. p.out) qs) x.out ∙ append_assoc old.out.items (flat_map (λ p. p.out) ps) (flat_map (λ p. p.out) qs) ∙ ap (λ z. old.out.items ++ z) (sym (ap (flat_map (λ p. p.out)) e ∙ flat_map-append (λ p. p.out) ps qs));
  err = y.err ∙ ap (λ z. z ++ flat_map (λ p. p.err) qs) x.err ∙ append_assoc old.err.items (flat_map (λ p. p.err) ps) (flat_map (λ p. p.err) qs) ∙ ap (λ z. old.err.items ++ z) (sym (ap (flat_map (λ p. p.err)) e ∙ flat_map-append (λ p. p.err) ps qs));
}

-- the pieces of one more run
pub runs_pieces_more : {T : Type 0} (rs : List (Rerun T)) (i : ℕ) (a : Rerun T) → i < length rs → a ≡ get_or rs i a → flat_map run_pieces (take (i + 1) rs) ≡ flat_map run_pieces (take i rs) ++ run_pieces a
runs_pieces_more rs i a l e = ap (flat_map run_pieces) ((take_at_read rs i a l).1 ∙ ap (λ z. take i rs ++ z ∷ []) (sym e)) ∙ flat_map-append run_pieces (take i rs) (a ∷ []) ∙ ap (λ z. flat_map run_pieces (take i rs) ++ z) (append-nil (run_pieces a))

-- ---- the parts of the list of pieces at an edit of pages

renewed_pieces : {T : Type 0} (ps : List (Page T)) (rs : List (Rerun T)) → length rs ≤ length ps → all_pieces (take (length rs) (renewed ps rs)) ≡ flat_map run_pieces rs
renewed_pieces [] [] l = refl
renewed_pieces [] (a ∷ rs) l = absurd (omega arith)
renewed_pieces (p ∷ ps) [] l = refl
renewed_pieces (p ∷ ps) (a ∷ rs) l = let l' : length rs ≤ length ps = omega arith in ap (λ z. run_pieces a ++ z) (renewed_pieces ps rs l')

-- the pieces of the pages `gs`, which are those of `n` inputs after the first `from`
middle : {T S : Type 0} (seen : T → S) (r : Fold S) (s : S) (ps as' gs ds : List (Page T)) (from n : ℕ) → ps ≡ as' ++ (gs ++ ds) → Holds seen r s ps → from ≡ count_in as' → n ≡ count_in gs → (take from (all_pieces ps) ≡ all_pieces as') × (take n (drop from (all_pieces ps)) ≡ all_pieces gs)
middle seen r s ps as' gs ds from n o h e f =
    let k = subst (λ z. Holds seen r s z) o h in
    let a = all_pieces as' in
    let an : length a ≡ count_in as' = pieces_length seen r s as' (holds_left seen r s as' (gs ++ ds) k) in
    let gn : length (all_pieces gs) ≡ count_in gs = pieces_length seen r _ gs (holds_left seen r (kept_of seen s as') gs ds (holds_right seen r s as' (gs ++ ds) k)) in
    let is : all_pieces ps ≡ a ++ (all_pieces gs ++ all_pieces ds) = ap all_pieces o ∙ flat_map-append pieces_in as' (gs ++ ds) ∙ ap (λ z. a ++ z) (flat_map-append pieces_in gs ds) in (
      ap (take from) is ∙ take_front a (all_pieces gs ++ all_pieces ds) from (e ∙ sym an),
      ap (λ z. take n (drop from z)) is ∙ ap (take n) (drop_front a (all_pieces gs ++ all_pieces ds) from (e ∙ sym an)) ∙ take_front (all_pieces gs) (all_pieces ds) n (f ∙ sym gn),
    )

-- the edited page and those that were run after it
edited_pages : {T : Type 0} (old : List (Page T)) (j k : ℕ) (p : Page T) → j < length old → p ≡ get_or old j p → take (1 + k) (drop j old) ≡ p ∷ take k (drop (j + 1) old)
edited_pages old j k p l h =
    let n : 1 + k ≡ suc k = omega arith in
    let m : length (take j old) ≡ j = length-take-le j old (let l' : j ≤ length old = omega arith in l') in
    ap₂ (λ y z. take y z) n (ap (drop j) (split_at old j p l h) ∙ drop_front (take j old) (p ∷ drop (j + 1) old) j (sym m))

no_piece : IsSome {T = Piece} None → ⊥
no_piece t = cc

never : IsTrue false → ⊥
never t = cc

closing_gone : (o : Option Piece) (b : Bool) (t : PieceView) → (IsTrue b ↔ IsSome o) → closing_if o t ≡ closing b t
closing_gone None true t h = absurd (no_piece (h.0 cc))
closing_gone None false t h = refl
closing_gone (Some p) true t h = refl
closing_gone (Some p) false t h = absurd (never (h.1 refl))

closing_come : (o : Option Piece) (b : Bool) (t e : Piece) → (IsTrue b ↔ IsSome o) → MatchOption o (e ≡ t) (λ p. e ≡ p) → map piece_view (option_to_list o) ≡ closing b (piece_view e)
closing_come None true t e h m = absurd (no_piece (h.0 cc))
closing_come None false t e h m = refl
closing_come (Some p) true t e h m = ap (λ z. piece_view z ∷ []) (sym m)
closing_come (Some p) false t e h m = absurd (never (h.1 refl))

same_cut : (out err : Splice) (b b' g g' c c' : List PieceView) → b ≡ b' → g ≡ g' → c ≡ c' → AreCut out err b g c → AreCut out err b' g' c'
same_cut out err b b' g g' c c' x y z h = subst (λ w. AreCut out err w g' c') x (subst₂ (λ v w. AreCut out err b v w) y z h)

-- the splices of an edit of pages
pub done_splices : {T S : Type 0} (seen : T → S) (r : Fold S) (s : S) (old new : List (Page T)) (j i cut : ℕ) (p : Page T) (put : List Val) (a : Rerun T) (rs : List (Rerun T)) (x : Installed old new j i put cut a rs) (closing : Option Piece) (c : Change) (out err : Splice) (h : PieceView) (t e : Piece) → j < length old → p ≡ get_or old j p → i + cut ≤ length p.inputs.items → Holds seen r s old → Holds seen r s new → length rs ≤ length (drop (j + 1) old)
    → c.from ≡ count_in (take j old) → c.from + c.cut ≡ count_in (take ((j + 1) + length rs) old) → c.put ≡ (c.cut + length put) - cut → (IsTrue c.closed ↔ IsSome closing) → MatchOption closing (e ≡ t) (λ p. e ≡ p)
    → AreCut out err (h ∷ all_pieces (take j old)) (all_pieces (take (1 + length rs) (drop j old)) ++ closing_if closing (piece_view t)) ((run_pieces a ++ flat_map run_pieces rs) ++ map piece_view (option_to_list closing))
    → AreSplices (record { change = c; out = out; err = err }) h (all_pieces old) (all_pieces new) (piece_view t) (piece_view e)
done_splices seen r s old new j i cut p put a rs x closing c out err h t e l there place ho hn fit from cut_is put_is shut tail cuts =
    let bs = drop (j + 1) old in
    let k = length rs in
    let n = done_counts old new j i cut p put a rs x c l there place from cut_is put_is in
    let was = middle seen r s old (take j old) (p ∷ take k bs) (drop k bs) c.from c.cut n.0 ho from n.2 in
    let is = middle seen r s new (take j old) (x.page ∷ take k (renewed bs rs)) (drop k bs) c.from c.put n.1 hn from n.3 in
    same_cut out err _ _ _ _ _ _
    (ap (λ z. h ∷ z) (sym was.0))
    (ap₂ (λ y z. y ++ z) (ap all_pieces (edited_pages old j k p l there) ∙ sym was.1) (closing_gone closing c.closed (piece_view t) shut))
    (ap₂ (λ y z. y ++ z) (ap₂ (λ y z. y ++ z) (ap (λ z. map piece_view z.items.items) (sym x.pieces)) (sym (renewed_pieces bs rs fit)) ∙ sym is.1) (closing_come closing c.closed t e shut tail))
    cuts

-- those of an edit of one place
pub one_splices : {T S : Type 0} (seen : T → S) (r : Fold S) (s : S) (old new : List (Page T)) (j i cut k : ℕ) (p : Page T) (put : List Val) (qs : List Piece) (c : Change) (out err : Splice) (h t e : PieceView) → Replaced old new j i put qs cut → j < length old → p ≡ get_or old j p → i + cut ≤ length p.pieces.items.items → count_in (take j old) + i ≡ k → Holds seen r s old
    → c.from ≡ k → c.put ≡ length qs → c.cut ≡ cut → c.closed ≡ false
    → AreCut out err (h ∷ (all_pieces (take j old) ++ take i (pieces_in p))) (take cut (drop i (pieces_in p))) (map piece_view qs)
    → AreSplices (record { change = c; out = out; err = err }) h (all_pieces old) (all_pieces new) t e
one_splices seen r s old new j i cut k p put qs c out err h t e x l there place spot holds from put_is cut_is unclosed cuts =
    let a = all_pieces (take j old) in
    let v = pieces_in p in
    let d = all_pieces (drop (j + 1) old) in
    let whole : Holds seen r s (take j old ++ (p ∷ drop (j + 1) old)) = subst (λ z. Holds seen r s z) (split_at old j p l there) holds in
    let an : length a ≡ count_in (take j old) = pieces_length seen r s (take j old) (holds_left seen r s (take j old) (p ∷ drop (j + 1) old) whole) in
    let vn : length v ≡ length p.pieces.items.items = map_length piece_view p.pieces.items.items in
    let li : i ≤ length v = omega arith in
    let was : all_pieces old ≡ a ++ (v ++ d) = ap all_pieces (split_at old j p l there) ∙ flat_map-append pieces_in (take j old) (p ∷ drop (j + 1) old) in
    let at : c.from ≡ length a + i = from ∙ sym spot ∙ ap (λ z. z + i) (sym an) in
    let before : take c.from (all_pieces old) ≡ a ++ take i v = ap₂ (λ y z. take y z) at was ∙ cut_within a v d i li in
    let after : drop c.from (all_pieces old) ≡ drop i v ++ d = ap₂ (λ y z. drop y z) at was ∙ drop_within a v d i li in
    let dn : length (drop i v) ≡ length v - i = length-drop i v in
    let lc : cut ≤ length (drop i v) = omega arith in
    let gone : take c.cut (drop c.from (all_pieces old)) ≡ take cut (drop i v) = ap₂ (λ y z. take y z) cut_is after ∙ take-append-le cut (drop i v) d lc in
    let is : all_pieces new ≡ replace_range (all_pieces old) k (k + cut) (map piece_view qs) = pieces_replaced seen r s old new j i cut p put qs x l there place holds ∙ ap (λ z. replace_range (all_pieces old) z (z + cut) (map piece_view qs)) spot in
    let tn : length (take k (all_pieces old)) ≡ k = ap length (ap (λ z. take z (all_pieces old)) (sym from) ∙ before) ∙ length-append a (take i v) ∙ ap (λ z. length a + z) (length-take-le i v li) ∙ sym at ∙ from in
    let come : take c.put (drop c.from (all_pieces new)) ≡ map piece_view qs =
    ap₂ (λ y z. take c.put (drop y z)) from (is ∙ append_assoc (take k (all_pieces old)) (map piece_view qs) (drop (k + cut) (all_pieces old)))
    ∙ ap (take c.put) (drop_front (take k (all_pieces old)) (map piece_view qs ++ drop (k + cut) (all_pieces old)) k (sym tn))
    ∙ take_front (map piece_view qs) (drop (k + cut) (all_pieces old)) c.put (put_is ∙ sym (map_length piece_view qs)) in
    same_cut out err _ _ _ _ _ _
    (ap (λ z. h ∷ z) (sym before))
    (sym (append-nil _) ∙ ap₂ (λ y z. y ++ closing z t) (sym gone) (sym unclosed))
    (sym (append-nil _) ∙ ap₂ (λ y z. y ++ closing z e) (sym come) (sym unclosed))
    cuts

-- ---- splices from totals

pub cut_by_totals : (out err : Splice) (before gone come : List PieceView) (b g : Totals) (bytes : Bytes) → b ≡ totals before → g ≡ totals gone → HasBytes bytes come → (out.at ≡ b.out) × (out.cut ≡ g.out) × (out.put ≡ bytes.out) → (err.at ≡ b.err) × (err.cut ≡ g.err) × (err.put ≡ bytes.err) → AreCut out err before gone come
cut_by_totals out err before gone come b g bytes x y h o e = record {
  out = record {
    at = o.0 ∙ ap (λ z. z.out) x ∙ out_is before;
    cut = o.1 ∙ ap (λ z. z.out) y ∙ out_is gone;
    put = ap (λ z. z.items) o.2 ∙ h.out;
  };
  err = record {
    at = e.0 ∙ ap (λ z. z.err) x ∙ err_is before;
    cut = e.1 ∙ ap (λ z. z.err) y ∙ err_is gone;
    put = ap (λ z. z.items) e.2 ∙ h.err;
  };
}
