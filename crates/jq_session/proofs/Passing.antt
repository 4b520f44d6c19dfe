-- Bytes in a buffer and bytes that were written, one write after the other.
use Rattle.std.proofs.Common.{◌≡◌, ℕ, ◌+◌, ◌<◌, ◌≤◌, zero, suc, add-one, List, [], ◌∷◌, ◌++◌, length, take, drop, map, get_or, Option, Some, slice_get, refl, sym, ap, ◌∙◌, subst, append-nil, append_assoc, arith}
use Rattle.std.specs.Io.KnownBytes.{Appends}
use Rattle.std.specs.List.{flat_map}
use Rattle.std.proofs.KnownBytes.{Appends-trans}
use Rattle.std.proofs.lemmas.Grind.{flat_map-append}
use Rattle.std.proofs.lemmas.List.{map-append, map_more, take-append-drop, take_all}
use Rattle.jq_devices.proofs.shared.Writing.{first_after, first_longer}
use Rattle.jq_devices.specs.Writing.{AppendsFirst}
use Rattle.jq_pages.specs.Pieces.{PieceView, piece_view}
use Rattle.jq_pages.specs.declared.pieces.Piece.{Piece}
use Rattle.jq_session.specs.private.Parts.{part_in}
use Rattle.jq_session.specs.private.Writing.{IsPassed}
use Rattle.jq_session.specs.declared.writing.Part.TheVariants as part

-- the buffer was written, and then they were
pub passed_on : (w v bytes : List ℕ) (r s t : Option (List ℕ)) → Appends r s w → v ≡ [] → Appends s t bytes → IsPassed w v r t bytes
passed_on w v bytes r s t first none second = record {
  front = w ++ bytes;
  parts = sym (append-nil (w ++ bytes)) ∙ ap (λ l. (w ++ bytes) ++ l) (sym none);
  written = Appends-trans r s t w bytes first second;
}

regrouped : (u a b front v tail : List ℕ) → u ++ a ≡ front ++ v → v ++ b ≡ tail → u ++ (a ++ b) ≡ front ++ tail
regrouped u a b front v tail e f = sym (append_assoc u a b) ∙ ap (λ l. l ++ b) e ∙ append_assoc front v b ∙ ap (λ l. front ++ l) f

pub passed_more : (u v w : List ℕ) (r s t : Option (List ℕ)) (a b : List ℕ) → IsPassed u v r s a → IsPassed v w s t b → IsPassed u w r t (a ++ b)
passed_more u v w r s t a b p q = record {
  front = p.front ++ q.front;
  parts = regrouped u a b p.front v (q.front ++ w) p.parts q.parts ∙ sym (append_assoc p.front q.front w);
  written = Appends-trans r s t p.front q.front p.written q.written;
}

-- the first of all these bytes were written
pub passed_first : (u v : List ℕ) (r s t : Option (List ℕ)) (a b : List ℕ) → IsPassed u v r s a → AppendsFirst s t (v ++ b) → AppendsFirst r t (u ++ (a ++ b))
passed_first u v r s t a b p q =
    subst (AppendsFirst r t) (sym (regrouped u a b p.front v (v ++ b) p.parts refl)) (first_after r s t p.front (v ++ b) p.written q)

-- all of them were
pub passed_last : (u v : List ℕ) (r s t : Option (List ℕ)) (a : List ℕ) → IsPassed u v r s a → Appends s t v → Appends r t (u ++ a)
passed_last u v r s t a p q = subst (Appends r t) (sym p.parts) (Appends-trans r s t p.front v p.written q)

pub passed_last_first : (u v : List ℕ) (r s t : Option (List ℕ)) (a : List ℕ) → IsPassed u v r s a → AppendsFirst s t v → AppendsFirst r t (u ++ a)
passed_last_first u v r s t a p q = subst (AppendsFirst r t) (sym p.parts) (first_after r s t p.front v p.written q)

-- ---- pieces and pages

pub part_more : {A B : Type 0} (f : A → List B) (g : List A) (x : A) → flat_map f (g ++ x ∷ []) ≡ flat_map f g ++ f x
part_more f g x = flat_map-append f g (x ∷ []) ∙ ap (λ l. flat_map f g ++ l) (append-nil (f x))

none_taken : {A : Type 0} (l : List A) → take 0 l ≡ []
none_taken [] = refl
none_taken (x ∷ xs) = refl

-- one page more
pub page_taken : {A : Type 0} (pss : List (List A)) (j : ℕ) (ps : List A) → slice_get pss j ≡ Some ps → take (suc j) pss ≡ take j pss ++ ps ∷ []
page_taken [] j ps e = cc
page_taken (qs ∷ pss) zero ps e = let same : qs ≡ ps = cc in ap (λ l. qs ∷ l) (none_taken pss) ∙ ap (λ l. l ∷ []) same
page_taken (qs ∷ pss) (suc j) ps e = ap (λ l. qs ∷ l) (page_taken pss j ps e)

abbrev pub joined_pages : (PieceView → List ℕ) → List (List PieceView) → List ℕ
joined_pages f pss = flat_map f (flat_map (λ ps. ps) pss)

pub pages_more : (f : PieceView → List ℕ) (pss : List (List PieceView)) (j : ℕ) (ps : List PieceView) → slice_get pss j ≡ Some ps
    → joined_pages f (take (suc j) pss) ≡ joined_pages f (take j pss) ++ flat_map f ps
pages_more f pss j ps e =
    ap (joined_pages f) (page_taken pss j ps e)
    ∙ ap (flat_map f) (part_more (λ l. l) (take j pss) ps)
    ∙ flat_map-append f (flat_map (λ l. l) (take j pss)) ps

pub pages_next : (f : PieceView → List ℕ) (h : List ℕ) (pss : List (List PieceView)) (j : ℕ) (ps : List PieceView) → slice_get pss j ≡ Some ps
    → (h ++ joined_pages f (take j pss)) ++ flat_map f ps ≡ h ++ joined_pages f (take (j + 1) pss)
pages_next f h pss j ps e =
    append_assoc h (joined_pages f (take j pss)) (flat_map f ps)
    ∙ ap (λ l. h ++ l) (sym (ap (λ n. joined_pages f (take n pss)) (add-one j) ∙ pages_more f pss j ps e))

-- all pieces, with the last one
pub all_are : (f : PieceView → List ℕ) (h : List ℕ) (pss : List (List PieceView)) (ps : List PieceView) (t : PieceView) → flat_map (λ l. l) pss ≡ ps
    → (h ++ joined_pages f pss) ++ f t ≡ h ++ flat_map f (ps ++ t ∷ [])
all_are f h pss ps t e =
    append_assoc h (joined_pages f pss) (f t)
    ∙ ap (λ l. h ++ l) (ap (λ l. flat_map f l ++ f t) e ∙ sym (part_more f ps t))

joined_split : (f : PieceView → List ℕ) (pss : List (List PieceView)) (n : ℕ) → joined_pages f pss ≡ joined_pages f (take n pss) ++ joined_pages f (drop n pss)
joined_split f pss n =
    ap (joined_pages f) (sym (take-append-drop n pss))
    ∙ ap (flat_map f) (flat_map-append (λ l. l) (take n pss) (drop n pss))
    ∙ flat_map-append f (flat_map (λ l. l) (take n pss)) (flat_map (λ l. l) (drop n pss))

-- the first bytes up to a page were written
pub page_first : (f : PieceView → List ℕ) (h : List ℕ) (pss : List (List PieceView)) (j : ℕ) (ps all : List PieceView) (t : PieceView) (v : List ℕ) (r s u : Option (List ℕ)) → slice_get pss j ≡ Some ps
    → flat_map (λ l. l) pss ≡ all → IsPassed [] v r s (h ++ joined_pages f (take j pss)) → AppendsFirst s u (v ++ flat_map f ps) → AppendsFirst r u (h ++ flat_map f (all ++ t ∷ []))
page_first f h pss j ps all t v r s u e whole p q =
    let front = h ++ joined_pages f (take (j + 1) pss) in
    let first : AppendsFirst r u front = subst (AppendsFirst r u) (pages_next f h pss j ps e) (passed_first [] v r s u (h ++ joined_pages f (take j pss)) (flat_map f ps) p q) in
    let rest = joined_pages f (drop (j + 1) pss) in
    subst (AppendsFirst r u)
    (ap (λ l. l ++ f t) (append_assoc h (joined_pages f (take (j + 1) pss)) rest ∙ ap (λ l. h ++ l) (sym (joined_split f pss (j + 1)))) ∙ all_are f h pss all t whole)
    (first_longer r u (front ++ rest) (f t) (first_longer r u front rest first))

-- all pages were passed on
pub pages_ended : (f : PieceView → List ℕ) (h : List ℕ) (pss : List (List PieceView)) (j n : ℕ) (v : List ℕ) (r s : Option (List ℕ)) → n ≡ length pss → n ≤ j
    → IsPassed [] v r s (h ++ joined_pages f (take j pss)) → IsPassed [] v r s (h ++ joined_pages f pss)
pages_ended f h pss j n v r s e above p = subst (λ l. IsPassed [] v r s (h ++ joined_pages f l)) (take_all j pss (omega (arith, e, above))) p

-- the first piece
pub head_first : (h rest w b : List ℕ) (r t : Option (List ℕ)) → w ≡ [] → b ≡ h → AppendsFirst r t (w ++ b) → AppendsFirst r t (h ++ rest)
head_first h rest w b r t none e q = first_longer r t h rest (subst (AppendsFirst r t) (ap (λ l. l ++ b) none ∙ e) q)

-- ---- one piece more

pub pieces_more : (f : PieceView → List ℕ) (ps : List Piece) (i : ℕ) (x : Piece) → i < length ps → x ≡ get_or ps i x
    → flat_map f (map piece_view (take i ps)) ++ f (piece_view x) ≡ flat_map f (map piece_view (take (i + 1) ps))
pieces_more f ps i x below item =
    sym (part_more f (map piece_view (take i ps)) (piece_view x))
    ∙ ap (λ y. flat_map f (map piece_view (take i ps) ++ piece_view y ∷ [])) item
    ∙ ap (flat_map f) (sym (map_more piece_view ps i x below))

pieces_split : (f : PieceView → List ℕ) (ps : List Piece) (n : ℕ) → flat_map f (map piece_view (take n ps)) ++ flat_map f (map piece_view (drop n ps)) ≡ flat_map f (map piece_view ps)
pieces_split f ps n =
    sym (flat_map-append f (map piece_view (take n ps)) (map piece_view (drop n ps)))
    ∙ ap (flat_map f) (sym (map-append piece_view (take n ps) (drop n ps)))
    ∙ ap (λ l. flat_map f (map piece_view l)) (take-append-drop n ps)

pub piece_first : (f : PieceView → List ℕ) (ps : List Piece) (i : ℕ) (x : Piece) (u v b : List ℕ) (r s t : Option (List ℕ)) → i < length ps → x ≡ get_or ps i x → b ≡ f (piece_view x)
    → IsPassed u v r s (flat_map f (map piece_view (take i ps))) → AppendsFirst s t (v ++ b) → AppendsFirst r t (u ++ flat_map f (map piece_view ps))
piece_first f ps i x u v b r s t below item is p q =
    let front = flat_map f (map piece_view (take (i + 1) ps)) in
    let rest = flat_map f (map piece_view (drop (i + 1) ps)) in
    let first : AppendsFirst r t (u ++ front) =
    subst (λ l. AppendsFirst r t (u ++ l)) (ap (λ l. flat_map f (map piece_view (take i ps)) ++ l) is ∙ pieces_more f ps i x below item)
    (passed_first u v r s t (flat_map f (map piece_view (take i ps))) b p q) in
    subst (AppendsFirst r t) (append_assoc u front rest ∙ ap (λ l. u ++ l) (pieces_split f ps (i + 1))) (first_longer r t (u ++ front) rest first)

-- ---- the parts of pieces

pub outputs_are : (ps : List PieceView) → flat_map (part_in part.Output) ps ≡ flat_map (λ p. p.out) ps
outputs_are [] = refl
outputs_are (p ∷ ps) = ap (λ l. p.out ++ l) (outputs_are ps)

pub errors_are : (ps : List PieceView) → flat_map (part_in part.Errors) ps ≡ flat_map (λ p. p.err) ps
errors_are [] = refl
errors_are (p ∷ ps) = ap (λ l. p.err ++ l) (errors_are ps)
