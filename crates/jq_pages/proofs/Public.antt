-- From an edit of pages to what the calls of `Pages` say of it.
use Rattle.std.proofs.Common.{◌≡◌, ℕ, zero, suc, get_or, ◌+◌, ◌-◌, ◌<◌, ◌≤◌, inl, inr, List, [], ◌∷◌, ◌++◌, length, take, drop, refl, sym, ◌∙◌, ap, ap₂, subst, subst₂, map, drop_of_length-le, arith, append_assoc, append-nil, add-one, length-append, length-drop, length-take-le, take-append-drop, IsTrue, IsFalse, Result, Ok, Err, IsOk, IsErrAnd, IfErr, OnErr, MatchResult}
use Rattle.std.proofs.lemmas.Bool.{lt-ltb, le-ltb}
use Rattle.std.proofs.lemmas.List.{drop-drop, set_split}
use Rattle.std.proofs.Math.Logic.{∥∥₁_elim}
use Rattle.std.proofs.Props.{props}
use Rattle.std.specs.List.{flat_map, replace_range}
use Rattle.jv_data.specs.Value.{Value}
use Rattle.jv_data.specs.View.{view}
use Rattle.jv_data.specs.declared.values.Val.{Val}
use Rattle.jq_pages.specs.Changes.{IsChange, IsRerun, IsSameState, IsStarted}
use Rattle.jq_pages.specs.Contents.{folded_in}
use Rattle.jq_pages.specs.Edits.{Edit, insert, replace, remove, full, place, taken, added, edited, after, with_inputs, most_inputs}
use Rattle.jq_pages.specs.Folds.{Fold, Folded, Rises, all, pieces, tail, state_after, pieces_after}
use Rattle.jq_pages.specs.Pieces.{PieceView, piece_view}
use Rattle.jq_pages.specs.private.Edits.{IsListChange, IsListEdit, IsOneEdit, IsPagesEdit, Meets}
use Rattle.jq_pages.specs.Splices.{IsSplice, IsSpliced, closing}
use Rattle.jq_pages.specs.private.Cuts.{AreSplices}
use Rattle.jq_pages.specs.private.Pages.{all_inputs, all_pieces, IsBegun, IsFilled, IsHeld, IsSized}
use Rattle.jq_pages.specs.private.Reruns.{Holds, count_in}
use Rattle.jq_pages.specs.declared.changes.Change.{Change}
use Rattle.jq_pages.specs.declared.changes.Edited.{Edited}
use Rattle.jq_pages.specs.declared.page.Page.{Page}
use Rattle.jq_pages.specs.declared.kept.Kept.{Kept}
use Rattle.jq_pages.specs.declared.pieces.Piece.{Piece}
use Rattle.jq_pages.specs.declared.steps.Steps.{Ghosts}
use Rattle.jq_pages.proofs.Cuts.{spliced_by}
use Rattle.jq_pages.proofs.Edits.{inputs_count, kept_is, pieces_length, map_length, pieces_are, pieces_count}
use Rattle.jq_pages.proofs.Applied.{page_small}
use Rattle.jq_pages.proofs.Divided.{page_pieces}
use Rattle.jq_pages.proofs.Filled.{same_count}
use Rattle.jq_pages.proofs.Reruns.{rises_within}
use Rattle.jq_pages.proofs.Sets.{sets}

-- ---- the inputs after an edit

-- the inputs with those that the edit takes out replaced by these
abbrev pub made : Edit → List Val → List Value → List Value
made e put vs = replace_range vs (place e) (place e + taken e) (map view put)

-- The definition accepts the edit, and these are its inputs.
abbrev pub Accepts : Edit → List Val → List Value → Type 0
Accepts e put vs = (edited e vs ≡ Ok (made e put vs)) × (place e + taken e ≤ length vs) × (length put ≡ added e)

pub accepts_insert : (k : ℕ) (v : Val) (vs : List Value) → k ≤ length vs → length vs < most_inputs → Accepts (insert k (view v)) (v ∷ []) vs
accepts_insert k v vs l room = (
  let e : k ≡ k + 0 = omega arith in
      rw (le-ltb (length vs) k l, lt-ltb (length vs) most_inputs room) (ap Ok (sym (append_assoc (take k vs) (view v ∷ []) (drop k vs)) ∙ ap (λ n. (take k vs ++ view v ∷ []) ++ drop n vs) e)),
  omega arith,
  refl,
)

pub accepts_replace : (k : ℕ) (v : Val) (vs : List Value) → k < length vs → Accepts (replace k (view v)) (v ∷ []) vs
accepts_replace k v vs l = (
  rw (lt-ltb k (length vs) l) (ap Ok (set_split vs k (view v) l ∙ ap (λ n. take k vs ++ view v ∷ drop n vs) (sym (add-one k)) ∙ sym (append_assoc (take k vs) (view v ∷ []) (drop (k + 1) vs)))),
  omega arith,
  refl,
)

pub accepts_remove : (k : ℕ) (vs : List Value) → k < length vs → Accepts (remove k) [] vs
accepts_remove k vs l = (
  rw (lt-ltb k (length vs) l) (ap Ok (ap (λ n. take k vs ++ drop n vs) (sym (add-one k)) ∙ ap (λ z. z ++ drop (k + 1) vs) (sym (append-nil (take k vs))))),
  omega arith,
  refl,
)

pub accepted : {S : Type 0} (e : Edit) (put : List Val) (r : Fold S) (vs : List Value) → Accepts e put vs → after e (folded_in r vs) ≡ Ok (folded_in r (made e put vs))
accepted e put r vs h = ap (with_inputs (folded_in r vs)) h.0

pub accepted_ok : {S : Type 0} (e : Edit) (put : List Val) (r : Fold S) (vs : List Value) → Accepts e put vs → IsOk (after e (folded_in r vs))
accepted_ok e put r vs h = subst IsOk (sym (accepted e put r vs h)) refl

pub same_folded : {S : Type 0} (r r' : Fold S) (vs vs' : List Value) → r' ≡ r → vs' ≡ vs → folded_in r' vs' ≡ folded_in r vs
same_folded r r' vs vs' a b = ap₂ folded_in a b

pub after_edit : {S : Type 0} (e : Edit) (put : List Val) (r r' : Fold S) (vs vs' : List Value) → Accepts e put vs → r' ≡ r → vs' ≡ made e put vs → after e (folded_in r vs) ≡ Ok (folded_in r' vs')
after_edit e put r r' vs vs' h a b = accepted e put r vs h ∙ ap Ok (sym (same_folded r r' (made e put vs) vs' a b))

pub full_insert : {S : Type 0} (k : ℕ) (v : Value) (x : Folded S) → k ≤ length x.inputs → most_inputs ≤ length x.inputs → after (insert k v) x ≡ Err full
full_insert k v x l m = rw (le-ltb (length x.inputs) k l, le-ltb (length x.inputs) most_inputs m) refl

-- ---- the pages as a fold over their inputs

pub pieces_of : {T S : Type 0} (seen : T → S) (r : Fold S) (h k : Piece) (t : T) (ps : List (Page T)) → IsBegun seen r h t → IsHeld seen r (seen t) ps k → all_pieces ps ≡ pieces (folded_in r (all_inputs ps))
pieces_of seen r h k t ps b x = pieces_are seen r (seen t) ps x.holds ∙ ap (λ z. pieces_after r z (all_inputs ps)) b.first

pub tail_of : {T S : Type 0} (seen : T → S) (r : Fold S) (h k : Piece) (t : T) (ps : List (Page T)) → IsBegun seen r h t → IsHeld seen r (seen t) ps k → piece_view k ≡ tail (folded_in r (all_inputs ps))
tail_of seen r h k t ps b x = x.tail ∙ ap r.close (kept_is seen r (seen t) ps x.holds ∙ ap (λ z. state_after r z (all_inputs ps)) b.first)

pub all_of : {T S : Type 0} (seen : T → S) (r : Fold S) (h k : Piece) (t : T) (ps : List (Page T)) → IsBegun seen r h t → IsHeld seen r (seen t) ps k → piece_view h ∷ (all_pieces ps ++ (piece_view k ∷ [])) ≡ all (folded_in r (all_inputs ps))
all_of seen r h k t ps b x = ap₂ (λ y z. y ∷ (z ++ (piece_view k ∷ []))) b.head (pieces_of seen r h k t ps b x) ∙ ap (λ z. r.begin.0 ∷ (pieces (folded_in r (all_inputs ps)) ++ (z ∷ []))) (tail_of seen r h k t ps b x)

pub joined_pages : {T A : Type 0} (f : Page T → List A) (ps : List (Page T)) → flat_map (λ z. z) (map f ps) ≡ flat_map f ps
joined_pages f [] = refl
joined_pages f (p ∷ ps) = ap (λ z. f p ++ z) (joined_pages f ps)

filled_at : {T : Type 0} (ps : List (Page T)) (j : ℕ) (d : Page T) → j < length ps → IsFilled ps → 0 < length (get_or ps j d).inputs.items
filled_at [] j d l h = absurd (omega arith)
filled_at (p ∷ ps) zero d l h = h.0
filled_at (p ∷ ps) (suc j) d l h = let l' : j < length ps = omega arith in filled_at ps j d l' h.1

pub inputs_size : {T : Type 0} (ps : List (Page T)) (j : ℕ) (d : Page T) → j < length ps → IsSized ps → IsFilled ps → (1 ≤ length (get_or ps j d).inputs.items) × (length (get_or ps j d).inputs.items ≤ 64)
inputs_size ps j d l z f =
    let m : length (get_or ps j d).inputs.items ≤ 64 = page_small ps j d l ∣ z ∣₁ in
    let n : 0 < length (get_or ps j d).inputs.items = filled_at ps j d l f in
    (omega arith, omega arith)

pub page_size : {T S : Type 0} (seen : T → S) (r : Fold S) (s : S) (ps : List (Page T)) (j : ℕ) (d : Page T) → j < length ps → Holds seen r s ps → IsSized ps → IsFilled ps → (1 ≤ length (get_or ps j d).pieces.items.items) × (length (get_or ps j d).pieces.items.items ≤ 64)
page_size seen r s ps j d l h z f =
    let e : length (get_or ps j d).pieces.items.items ≡ length (get_or ps j d).inputs.items = page_pieces seen r s ps j d l h in
    let n = inputs_size ps j d l z f in
    (subst (λ k. 1 ≤ k) (sym e) n.0, subst (λ k. k ≤ 64) (sym e) n.1)

-- ---- how often the filter is started

pub meets : {S : Type 0} (e : Edit) (put : List Val) (r : Fold S) (s : S) (vs : List Value) (q : ℕ) → length put ≡ added e → s ≡ r.begin.1 → IsSameState e (folded_in r vs) (folded_in r (made e put vs)) q → Meets r s vs (made e put vs) (place e) (length put) (taken e) q
meets e put r s vs q n b x =
    subst (λ z. Meets r z vs (made e put vs) (place e) (length put) (taken e) q) (sym b)
    (subst (λ z. Meets r r.begin.1 vs (made e put vs) (place e) z (taken e) q) (sym n) (record { after = x.after; within = x.within; same = x.same }))

pub far_enough : (n : ℕ) → n + 64 + 65 ≤ n + 129
far_enough n = omega arith

rerun_of : {S E : Type 0} (e : Edit) (put : List Val) (r : Fold S) (s : S) (vs new : List Value) (was is : List PieceView) (b a : ℕ) (result : Result Change E) → length put ≡ added e → s ≡ r.begin.1
    → IsListEdit r s vs new (made e put vs) was is (place e) (length put) (taken e) 64 b a result → (IsTrue r.plain → IsOneEdit (place e) (length put) (taken e) b a result) → IsRerun e (folded_in r vs) (folded_in r (made e put vs)) b a
rerun_of e put r s vs new was is b a result n begin x one = record {
  rises = λ q m. elim m [
    | inl y ↦ rises_within _ _ _ _ (x.rises q (meets e put r s vs q n begin y)) (far_enough _)
    | inr y ↦ subst (λ z. Rises b a ((z - place e) + 129)) (sym y) (rises_within _ _ _ _ x.rises_all (far_enough _))
  ];
  plain = λ p. subst (λ z. Rises b a z) n (one p).rises;
}

-- ---- which pieces change

pub count_made : (vs xs : List Value) (p cut : ℕ) → p + cut ≤ length vs → length (replace_range vs p (p + cut) xs) + cut ≡ length vs + length xs
count_made vs xs p cut l =
    let a : length ((take p vs ++ xs) ++ drop (p + cut) vs) ≡ length (take p vs ++ xs) + length (drop (p + cut) vs) = length-append (take p vs ++ xs) (drop (p + cut) vs) in
    let b : length (take p vs ++ xs) ≡ length (take p vs) + length xs = length-append (take p vs) xs in
    let m : p ≤ length vs = omega arith in
    let c : length (take p vs) ≡ p = length-take-le p vs m in
    let d : length (drop (p + cut) vs) ≡ length vs - (p + cut) = length-drop (p + cut) vs in
    omega arith

rejoined : {A : Type 0} (old new : List A) (from cut put : ℕ) → take from new ≡ take from old → drop (from + put) new ≡ drop (from + cut) old → new ≡ replace_range old from (from + cut) (take put (drop from new))
rejoined old new from cut put a b =
    sym (take-append-drop from new)
    ∙ ap (λ z. take from new ++ z) (sym (take-append-drop put (drop from new)))
    ∙ sym (append_assoc (take from new) (take put (drop from new)) (drop put (drop from new)))
    ∙ ap₂ (λ x y. (x ++ take put (drop from new)) ++ y) a (drop-drop put from new ∙ b)

cut_fits : (from put cut more less n m : ℕ) → from + put ≤ m → put + less ≡ cut + more → m + less ≡ n + more → from + cut ≤ n
cut_fits from put cut more less n m a b c = omega arith

far_to : (from put q n : ℕ) → q ≡ n → from + put ≤ n → from + put ≤ q + 64
far_to from put q n a b = omega arith

change_is : {S E : Type 0} (e : Edit) (put : List Val) (r : Fold S) (s : S) (vs vs' : List Value) (b a : ℕ) (c : Change) → place e + taken e ≤ length vs → length put ≡ added e → s ≡ r.begin.1
    → IsListEdit {E = E} r s vs vs' (made e put vs) (pieces (folded_in r vs)) (pieces (folded_in r vs')) (place e) (length put) (taken e) 64 b a (Ok c)
    → (IsFalse c.closed → tail (folded_in r vs') ≡ tail (folded_in r vs)) → (IsTrue r.plain → IsOneEdit {E = E} (place e) (length put) (taken e) b a (Ok c)) → IsChange c e (folded_in r vs) (folded_in r vs')
change_is e put r s vs vs' b a c fits n begin x end one =
    let o = folded_in r vs in
    let w = folded_in r vs' in
    let ch = x.change in
    let on : length (pieces o) ≡ length vs = pieces_count r r.begin.1 vs in
    let wn : length (pieces w) ≡ length vs' = pieces_count r r.begin.1 vs' in
    let ends : c.from + c.put ≤ length (pieces w) = ch.within in
    let k : length (map view put) ≡ length put = map_length view put in
    let m : length vs' + taken e ≡ length vs + length (map view put) = ap (λ z. length z + taken e) x.inputs ∙ count_made vs (map view put) (place e) (taken e) fits in
    let grown : length (pieces w) + taken e ≡ length (pieces o) + length put = omega arith in
    record {
      replaces = record {
        cut = cut_fits c.from c.put c.cut (length put) (taken e) (length (pieces o)) (length (pieces w)) ends ch.grown grown;
        put = ends;
        pieces = rejoined (pieces o) (pieces w) c.from c.cut c.put ch.first ch.last;
        tail = end;
      };
      before = ch.before;
      near = ch.near;
      far = λ q y. elim y [
        | inl z ↦ x.far q (meets e put r s vs q n begin (subst (λ k. IsSameState e o (folded_in r k) q) x.inputs z))
        | inr z ↦ far_to c.from c.put q (length vs') z (subst (λ k. c.from + c.put ≤ k) wn ends)
      ];
      closing = λ t. ch.closing t ∙ wn;
      plain = λ p. let k = (one p).change in record { from = k.0; put = k.1 ∙ n; cut = k.2; not_closed = k.3 };
    }

pub change_of : {T S E : Type 0} (seen : T → S) (e : Edit) (put : List Val) (r r' : Fold S) (h k k' : Piece) (t : T) (ps ps' : List (Page T)) (b a : ℕ) (c : Change) → Accepts e put (all_inputs ps) → r' ≡ r → IsBegun seen r h t
    → IsHeld seen r (seen t) ps k → IsHeld seen r' (seen t) ps' k' → IsPagesEdit {E = E} seen r (seen t) ps ps' (place e) put (taken e) 64 b a (Ok c) → (IsFalse c.closed → k' ≡ k)
    → (IsTrue r.plain → IsOneEdit {E = E} (place e) (length put) (taken e) b a (Ok c)) → IsChange c e (folded_in r (all_inputs ps)) (folded_in r' (all_inputs ps'))
change_of {E = E} seen e put r r' h k k' t ps ps' b a c acc same begun old new x kept one =
    let held : IsHeld seen r (seen t) ps' k' = subst (λ z. IsHeld seen z (seen t) ps' k') same new in
    let vs = all_inputs ps in
    let vs' = all_inputs ps' in
    let x' = subst (λ was. IsListEdit {E = E} r (seen t) vs vs' (made e put vs) was (all_pieces ps') (place e) (length put) (taken e) 64 b a (Ok c)) (pieces_of seen r h k t ps begun old) x in
    let x'' = subst (λ is. IsListEdit {E = E} r (seen t) vs vs' (made e put vs) (pieces (folded_in r vs)) is (place e) (length put) (taken e) 64 b a (Ok c)) (pieces_of seen r h k' t ps' begun held) x' in
    subst (λ z. IsChange c e (folded_in r vs) (folded_in z vs')) (sym same)
    (change_is e put r (seen t) vs vs' b a c acc.1 acc.2 begun.first x''
    (λ f. sym (tail_of seen r h k' t ps' begun held) ∙ ap piece_view (kept f) ∙ tail_of seen r h k t ps begun old) one)

-- ---- the bytes that change

spliced_to : {S : Type 0} (r : Fold S) (vs vs' : List Value) (d : Edited) (h t t' : PieceView) (was is : List PieceView) (p put cut : ℕ)
    → h ≡ r.begin.0 → was ≡ pieces (folded_in r vs) → is ≡ pieces (folded_in r vs') → t ≡ tail (folded_in r vs) → t' ≡ tail (folded_in r vs')
    → IsListChange d.change was is p put cut → (IsFalse d.change.closed → t' ≡ t) → AreSplices d h was is t t' → IsSpliced d (folded_in r vs) (folded_in r vs')
spliced_to r vs vs' d h t t' was is p put cut eh ew ei et et' ch kept x =
    let c = d.change in
    let empty : IsTrue c.closed → drop (c.from + c.put) is ≡ [] = λ u. let e : c.from + c.put ≡ length is = ch.closing u in let l : length is ≤ c.from + c.put = omega arith in drop_of_length-le is l in
    let old : h ∷ (was ++ (t ∷ [])) ≡ all (folded_in r vs) = ap₂ (λ y z. y ∷ (z ++ (t ∷ []))) eh ew ∙ ap (λ z. r.begin.0 ∷ (pieces (folded_in r vs) ++ (z ∷ []))) et in
    let new : h ∷ (is ++ (t' ∷ [])) ≡ all (folded_in r vs') = ap₂ (λ y z. y ∷ (z ++ (t' ∷ []))) eh ei ∙ ap (λ z. r.begin.0 ∷ (pieces (folded_in r vs') ++ (z ∷ []))) et' in
    record {
      out = subst₂ (λ y z. IsSplice d.out (flat_map (λ q. q.out) y) (flat_map (λ q. q.out) z)) old new (spliced_by (λ q. q.out) d.out c h t t' was is ch.first ch.last empty kept x.out);
      err = subst₂ (λ y z. IsSplice d.err (flat_map (λ q. q.err) y) (flat_map (λ q. q.err) z)) old new (spliced_by (λ q. q.err) d.err c h t t' was is ch.first ch.last empty kept x.err);
      out_put = x.out.put ∙ ap₂ (λ y z. flat_map (λ q. q.out) (take c.put (drop c.from y) ++ closing c.closed z)) ei et';
      err_put = x.err.put ∙ ap₂ (λ y z. flat_map (λ q. q.err) (take c.put (drop c.from y) ++ closing c.closed z)) ei et';
    }

pub spliced_of : {T S E : Type 0} (seen : T → S) (e : Edit) (put : List Val) (r r' : Fold S) (h k k' : Piece) (t : T) (ps ps' : List (Page T)) (b a : ℕ) (d : Edited) → r' ≡ r → IsBegun seen r h t → IsHeld seen r (seen t) ps k → IsHeld seen r' (seen t) ps' k'
    → IsPagesEdit {E = E} seen r (seen t) ps ps' (place e) put (taken e) 64 b a (Ok d.change) → (IsFalse d.change.closed → k' ≡ k) → AreSplices d (piece_view h) (all_pieces ps) (all_pieces ps') (piece_view k) (piece_view k') → IsSpliced d (folded_in r (all_inputs ps)) (folded_in r' (all_inputs ps'))
spliced_of seen e put r r' h k k' t ps ps' b a d same begun old new x kept cuts =
    let held : IsHeld seen r (seen t) ps' k' = subst (λ z. IsHeld seen z (seen t) ps' k') same new in
    subst (λ z. IsSpliced d (folded_in r (all_inputs ps)) (folded_in z (all_inputs ps'))) (sym same)
    (spliced_to r (all_inputs ps) (all_inputs ps') d (piece_view h) (piece_view k) (piece_view k') (all_pieces ps) (all_pieces ps') _ _ _ begun.head
    (pieces_of seen r h k t ps begun old) (pieces_of seen r h k' t ps' begun held) (tail_of seen r h k t ps begun old) (tail_of seen r h k' t ps' begun held)
    x.change (λ f. ap piece_view (kept f)) cuts)

count_made_in : {T : Type 0} (e : Edit) (put : List Val) (ps ps' : List (Page T)) → Accepts e put (all_inputs ps) → all_inputs ps' ≡ made e put (all_inputs ps) → count_in ps' + taken e ≡ count_in ps + added e
count_made_in e put ps ps' acc x =
    let o : length (all_inputs ps) ≡ count_in ps = inputs_count ps in
    let w : length (all_inputs ps') ≡ count_in ps' = inputs_count ps' in
    let n : length (map view put) ≡ length put = map_length view put in
    let m : length (all_inputs ps') + taken e ≡ length (all_inputs ps) + length (map view put) = ap (λ z. length z + taken e) x ∙ count_made (all_inputs ps) (map view put) (place e) (taken e) acc.1 in
    let z : length put ≡ added e = acc.2 in
    omega arith

-- ---- the same of what `Pages` keeps: `steps` and `ps` are its steps and its pages after the edit

abbrev pub folded_kept : {S T : Type 0} {own : Ghosts S T} → Kept S T own → Folded own.Seen
folded_kept {S} {T} {own} x = folded_in (own.fold x.steps) (all_inputs x.pages.items)

-- the edit of its pages, and that it was of one input
abbrev pub EditOf : {S T E : Type 0} {own : Ghosts S T} → Kept S T own → S → List (Page T) → Edit → List Val → Result Change E → Type 0
EditOf {S} {T} {E} {own} old steps ps e put result = ∥ IsPagesEdit own.seen (own.fold old.steps) (own.seen old.first) old.pages.items ps (place e) put (taken e) 64 (own.starts old.steps) (own.starts steps) result ∥₁

abbrev pub OneOf : {S T E : Type 0} {own : Ghosts S T} → Kept S T own → S → Edit → List Val → Result Change E → Type 0
OneOf {S} {T} {E} {own} old steps e put result = IsTrue (own.fold old.steps).plain → IsOneEdit (place e) (length put) (taken e) (own.starts old.steps) (own.starts steps) result

pub few_pieces : {S T : Type 0} {own : Ghosts S T} (x : Kept S T own) → length (all_pieces x.pages.items) < 4294967296
few_pieces {S} {T} {own} x =
    ∥∥₁_elim x.held (hlevel props) (λ h.
    let n : length (all_pieces x.pages.items) ≡ count_in x.pages.items = pieces_length own.seen (own.fold x.steps) (own.seen x.first) x.pages.items h.holds in
    let c : x.count ≡ count_in x.pages.items = x.counted in
    let m : x.count ≤ 1000000 = x.not_over_full in
    omega arith)

module _ {S T E : Type 0} {own : Ghosts S T} (old : Kept S T own) (steps : S) (ps : List (Page T)) (e : Edit) (put : List Val) where
  pub inputs_after : (c : Change) → EditOf {E = E} old steps ps e put (Ok c) → all_inputs ps ≡ made e put (folded_kept old).inputs
  inputs_after c x = ∥∥₁_elim x (hlevel sets) (λ y. y.inputs)

  pub inputs_kept : (x : E) → EditOf old steps ps e put (Err x) → all_inputs ps ≡ (folded_kept old).inputs
  inputs_kept x h = ∥∥₁_elim h (hlevel sets) (λ y. y.unchanged)

  pub edited_to : (c : Change) → Accepts e put (folded_kept old).inputs → own.fold steps ≡ own.fold old.steps → EditOf {E = E} old steps ps e put (Ok c) → after e (folded_kept old) ≡ Ok (folded_in (own.fold steps) (all_inputs ps))
  edited_to c acc same x = after_edit e put (own.fold old.steps) (own.fold steps) (folded_kept old).inputs (all_inputs ps) acc same (inputs_after c x)

  pub kept_folded : (x : E) → own.fold steps ≡ own.fold old.steps → EditOf old steps ps e put (Err x) → folded_in (own.fold steps) (all_inputs ps) ≡ folded_kept old
  kept_folded x same h = same_folded (own.fold old.steps) (own.fold steps) (folded_kept old).inputs (all_inputs ps) same (inputs_kept x h)

  pub started_of : (result : Result Change E) → Accepts e put (folded_kept old).inputs → EditOf old steps ps e put result → OneOf old steps e put result → IsStarted e (folded_kept old) (own.starts old.steps) (own.starts steps)
  started_of result acc x one =
      subst (λ z. MatchResult z (λ new. IsRerun e (folded_kept old) new (own.starts old.steps) (own.starts steps)) (λ reason. own.starts steps ≡ own.starts old.steps)) (sym (accepted e put (own.fold old.steps) (folded_kept old).inputs acc))
      (∥∥₁_elim old.begun (hlevel props) (λ b. ∥∥₁_elim x (hlevel props) (λ y.
      rerun_of e put (own.fold old.steps) (own.seen old.first) (folded_kept old).inputs (all_inputs ps) (all_pieces old.pages.items) (all_pieces ps) (own.starts old.steps) (own.starts steps) result acc.2 b.first y one)))

  pub changed_by : (c : Change) (k : Piece) → Accepts e put (folded_kept old).inputs → own.fold steps ≡ own.fold old.steps → ∥ IsHeld own.seen (own.fold steps) (own.seen old.first) ps k ∥₁ → EditOf {E = E} old steps ps e put (Ok c) → (IsFalse c.closed → k ≡ old.tail) → OneOf {E = E} old steps e put (Ok c) → IsChange c e (folded_kept old) (folded_in (own.fold steps) (all_inputs ps))
  changed_by c k acc same held x kept one =
      ∥∥₁_elim old.begun (hlevel sets) (λ b. ∥∥₁_elim old.held (hlevel sets) (λ y. ∥∥₁_elim held (hlevel sets) (λ z. ∥∥₁_elim x (hlevel sets) (λ w.
      change_of own.seen e put (own.fold old.steps) (own.fold steps) old.head old.tail k old.first old.pages.items ps (own.starts old.steps) (own.starts steps) c acc same b y z w kept one))))

  pub spliced_after : (d : Edited) (k : Piece) → own.fold steps ≡ own.fold old.steps → ∥ IsHeld own.seen (own.fold steps) (own.seen old.first) ps k ∥₁ → EditOf {E = E} old steps ps e put (Ok d.change) → (IsFalse d.change.closed → k ≡ old.tail) → AreSplices d (piece_view old.head) (all_pieces old.pages.items) (all_pieces ps) (piece_view old.tail) (piece_view k) → IsSpliced d (folded_kept old) (folded_in (own.fold steps) (all_inputs ps))
  spliced_after d k same held x kept cuts =
      ∥∥₁_elim old.begun (hlevel sets) (λ b. ∥∥₁_elim old.held (hlevel sets) (λ y. ∥∥₁_elim held (hlevel sets) (λ z. ∥∥₁_elim x (hlevel sets) (λ w.
      spliced_of {E = E} own.seen e put (own.fold old.steps) (own.fold steps) old.head old.tail k old.first old.pages.items ps (own.starts old.steps) (own.starts steps) d same b y z w kept cuts))))

  pub counted_after : (c : Change) → Accepts e put (folded_kept old).inputs → EditOf {E = E} old steps ps e put (Ok c) → count_in ps + taken e ≡ count_in old.pages.items + added e
  counted_after c acc x = count_made_in e put old.pages.items ps acc (inputs_after c x)

  pub counted_kept : (x : E) → EditOf old steps ps e put (Err x) → count_in ps ≡ count_in old.pages.items
  counted_kept x h = same_count old.pages.items ps (inputs_kept x h)

  pub counted_same : (result : Result Change E) → Accepts e put (folded_kept old).inputs → added e ≡ taken e → EditOf old steps ps e put result → count_in ps ≡ count_in old.pages.items
  counted_same (Ok c) acc n x = let k : count_in ps + taken e ≡ count_in old.pages.items + added e = counted_after c acc x in omega arith
  counted_same (Err x) acc n h = counted_kept x h

pub begun_again : {T S : Type 0} (seen : T → S) (r r' : Fold S) (h : Piece) (t : T) → r' ≡ r → ∥ IsBegun seen r h t ∥₁ → ∥ IsBegun seen r' h t ∥₁
begun_again seen r r' h t e b = subst (λ z. ∥ IsBegun seen z h t ∥₁) (sym e) b

pub on_err : {A E : Type 0} (r : Result A E) {P : Type 0} → P → OnErr r P
on_err (Ok a) h = tt
on_err (Err e) h = h

pub if_err : {A E : Type 0} (r : Result A E) (e : E) (P : E → Type 0) → IsErrAnd r (λ x. x ≡ e) → P e → IfErr r P
if_err (Ok a) e P h p = tt
if_err (Err x) e P h p = subst P (sym h) p
