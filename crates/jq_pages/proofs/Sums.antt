-- Totals of joined lists, and how large they are.
use Rattle.std.proofs.Common.{◌≡◌, ◌≢◌, ℕ, suc, ◌+◌, ◌*◌, ◌<◌, ◌≤◌, ◌↔◌, List, [], ◌∷◌, ◌++◌, length, take, get_or, refl, sym, ◌∙◌, ap, ap₂, subst, arith, length-append, append-nil, take-append-drop, drop, zero, Bool, true, false, IsTrue, Option, Some, None, IsSome}
use Rattle.std.proofs.lemmas.Grind.{flat_map-append, take_at_read}
use Rattle.std.proofs.lemmas.List.Elements.{recursion_from_All}
use Rattle.std.specs.List.{flat_map, All, AllByRecursion, Any}
use Rattle.jq_pages.specs.Pieces.{PieceView, piece_view}
use Rattle.jq_pages.specs.Totals.{later, earlier, joined, nothing, total, totals}
use Rattle.jq_pages.specs.private.Bounds.{IsBounded}
use Rattle.jq_pages.specs.private.Pages.{all_pieces}
use Rattle.jq_pages.specs.private.Reruns.{pieces_in}
use Rattle.jq_pages.specs.declared.page.Page.{Page}
use Rattle.jq_pages.specs.declared.pieces.Last.{Last}
use Rattle.jq_pages.specs.declared.pieces.Last.TheVariants as last
use Rattle.jq_pages.specs.declared.totals.Totals.{Totals}
use Rattle.jq_pages.proofs.Edits.{map_length}

-- ---- what they say of pieces

pub out_is : (ps : List PieceView) → (totals ps).out ≡ length (flat_map (λ p. p.out) ps)
out_is [] = refl
out_is (p ∷ ps) = ap (λ n. length p.out + n) (out_is ps) ∙ sym (length-append p.out (flat_map (λ p. p.out) ps))

pub err_is : (ps : List PieceView) → (totals ps).err ≡ length (flat_map (λ p. p.err) ps)
err_is [] = refl
err_is (p ∷ ps) = ap (λ n. length p.err + n) (err_is ps) ∙ sym (length-append p.err (flat_map (λ p. p.err) ps))

-- one failure more
fails_first : (p : PieceView) (ps : List PieceView) (b : Bool) → p.failed ≡ b → (0 < (totals (p ∷ ps)).failed) → (0 < (totals ps).failed → Any (λ q. IsTrue q.failed) ps) → Any (λ q. IsTrue q.failed) (p ∷ ps)
fails_first p ps true e l rest = (0, p, omega arith, refl, e)
fails_first p ps false e l rest =
    let m : 0 < 0 + (totals ps).failed = rw e at l in
    let n : 0 < (totals ps).failed = omega (arith, m) in
    let x = rest n in
    (suc x.0, x.1, (let m : x.0 < length ps = x.2 in omega arith), x.3, x.4)

fails_to : (ps : List PieceView) → 0 < (totals ps).failed → Any (λ q. IsTrue q.failed) ps
fails_to [] l = absurd (omega arith)
fails_to (p ∷ ps) l = fails_first p ps p.failed refl l (fails_to ps)

fails_at : (ps : List PieceView) (k : ℕ) (x : PieceView) → k < length ps → get_or ps k x ≡ x → IsTrue x.failed → 0 < (totals ps).failed
fails_at [] k x l e t = absurd (omega arith)
fails_at (p ∷ ps) zero x l e t = let b : p.failed ≡ true = ap (λ z. z.failed) e ∙ t in rw b (omega arith)
fails_at (p ∷ ps) (suc k) x l e t =
    let l' : k < length ps = omega arith in
    let n : 0 < (totals ps).failed = fails_at ps k x l' e t in
    omega arith

pub fails : (ps : List PieceView) → (0 < (totals ps).failed) ↔ Any (λ q. IsTrue q.failed) ps
fails ps = (fails_to ps, λ a. fails_at ps a.0 a.1 a.2 a.3 a.4)

-- ---- joined lists

abbrev of_parts : (out err failed : ℕ) → Last → Option ℕ → Totals
of_parts out err failed l h = record { out = out; err = err; failed = failed; last = l; halt = h }

same_totals : (a a' b b' c c' : ℕ) (d d' : Last) (e e' : Option ℕ) → a ≡ a' → b ≡ b' → c ≡ c' → d ≡ d' → e ≡ e' → of_parts a b c d e ≡ of_parts a' b' c' d' e'
same_totals a a' b b' c c' d d' e e' h i j k l = ap₂ (λ x y. of_parts x y c d e) h i ∙ ap₂ (λ x y. of_parts a' b' x y e) j k ∙ ap (of_parts a' b' c' d') l

later_first : (l : Last) → later last.Nothing l ≡ l
later_first last.Nothing = refl
later_first last.Falsy = refl
later_first last.Truthy = refl

later_assoc : (x y z : Last) → later (later x y) z ≡ later x (later y z)
later_assoc x y last.Nothing = refl
later_assoc x y last.Falsy = refl
later_assoc x y last.Truthy = refl

earlier_last : (h : Option ℕ) → earlier h None ≡ h
earlier_last None = refl
earlier_last (Some s) = refl

earlier_assoc : (x y z : Option ℕ) → earlier (earlier x y) z ≡ earlier x (earlier y z)
earlier_assoc None y z = refl
earlier_assoc (Some s) y z = refl

plus_zero : (n : ℕ) → n + 0 ≡ n
plus_zero n = omega arith

zero_plus : (n : ℕ) → 0 + n ≡ n
zero_plus n = omega arith

plus_assoc : (a b c : ℕ) → (a + b) + c ≡ a + (b + c)
plus_assoc a b c = omega arith

pub joined_nothing : (t : Totals) → joined t nothing ≡ t
joined_nothing t = same_totals _ _ _ _ _ _ _ _ _ _ (plus_zero t.out) (plus_zero t.err) (plus_zero t.failed) refl (earlier_last t.halt)

pub nothing_joined : (t : Totals) → joined nothing t ≡ t
nothing_joined t = same_totals _ _ _ _ _ _ _ _ _ _ (zero_plus t.out) (zero_plus t.err) (zero_plus t.failed) (later_first t.last) refl

joined_assoc : (a b c : Totals) → joined (joined a b) c ≡ joined a (joined b c)
joined_assoc a b c = same_totals _ _ _ _ _ _ _ _ _ _ (plus_assoc a.out b.out c.out) (plus_assoc a.err b.err c.err) (plus_assoc a.failed b.failed c.failed) (later_assoc a.last b.last c.last) (earlier_assoc a.halt b.halt c.halt)

pub totals_append : (ps qs : List PieceView) → totals (ps ++ qs) ≡ joined (totals ps) (totals qs)
totals_append [] qs = sym (nothing_joined (totals qs))
totals_append (p ∷ ps) qs = ap (joined (total p)) (totals_append ps qs) ∙ sym (joined_assoc (total p) (totals ps) (totals qs))

pub totals_one : (p : PieceView) → totals (p ∷ []) ≡ total p
totals_one p = joined_nothing (total p)

-- the totals of lists that were joined
pub totals_join : (a b c : Totals) (ps qs rs : List PieceView) → a ≡ totals ps → b ≡ totals qs → c ≡ joined a b → rs ≡ ps ++ qs → c ≡ totals rs
totals_join a b c ps qs rs x y z e = z ∙ ap₂ joined x y ∙ sym (totals_append ps qs) ∙ ap totals (sym e)

-- with one piece more
pub totals_more : (a b c : Totals) (ps rs : List PieceView) (p : PieceView) → a ≡ totals ps → b ≡ total p → c ≡ joined a b → rs ≡ ps ++ p ∷ [] → c ≡ totals rs
totals_more a b c ps rs p x y z e = totals_join a b c ps (p ∷ []) rs x (y ∙ sym (totals_one p)) z e

-- ---- the first halt and the last output

no_halts : (ps : List PieceView) → AllByRecursion (λ p. p.halt ≡ None) ps → (totals ps).halt ≡ None
no_halts [] h = refl
no_halts (p ∷ ps) h = ap (λ z. earlier z (totals ps).halt) h.0 ∙ no_halts ps h.1

pub no_halt : (ps : List PieceView) → All (λ p. p.halt ≡ None) ps → (totals ps).halt ≡ None
no_halt ps h = no_halts ps (recursion_from_All (λ p. p.halt ≡ None) ps h)

is_first : (h k : Option ℕ) → IsSome h → earlier h k ≡ h
is_first None k s = cc
is_first (Some n) k s = refl

pub first_halt : (ps qs : List PieceView) (p : PieceView) → All (λ q. q.halt ≡ None) ps → IsSome p.halt → (totals (ps ++ p ∷ qs)).halt ≡ p.halt
first_halt ps qs p h s =
    ap (λ z. z.halt) (totals_append ps (p ∷ qs)) ∙ ap (λ z. earlier z (earlier p.halt (totals qs).halt)) (no_halt ps h) ∙ is_first p.halt (totals qs).halt s

no_outputs : (ps : List PieceView) → AllByRecursion (λ p. p.last ≡ last.Nothing) ps → (totals ps).last ≡ last.Nothing
no_outputs [] h = refl
no_outputs (p ∷ ps) h = ap₂ later h.0 (no_outputs ps h.1)

pub no_output : (ps : List PieceView) → All (λ p. p.last ≡ last.Nothing) ps → (totals ps).last ≡ last.Nothing
no_output ps h = no_outputs ps (recursion_from_All (λ p. p.last ≡ last.Nothing) ps h)

is_last : (x y : Last) → (y ≡ last.Nothing → ⊥) → later x y ≡ y
is_last x last.Nothing n = absurd (n refl)
is_last x last.Falsy n = refl
is_last x last.Truthy n = refl

pub last_output : (ps qs : List PieceView) (p : PieceView) → All (λ q. q.last ≡ last.Nothing) qs → p.last ≢ last.Nothing → (totals (ps ++ p ∷ qs)).last ≡ p.last
last_output ps qs p h n =
    ap (λ z. z.last) (totals_append ps (p ∷ qs)) ∙ ap (λ z. later (totals ps).last (later p.last z)) (no_output qs h) ∙ is_last (totals ps).last p.last n

-- ---- how large they are

pub bounded_joined : (a b c : Totals) (m n : ℕ) → IsBounded a m → IsBounded b n → c ≡ joined a b → IsBounded c (m + n)
bounded_joined a b c m n x y e =
    let xo : a.out ≤ m * 18446744073709551616 = x.out in
    let yo : b.out ≤ n * 18446744073709551616 = y.out in
    let xe : a.err ≤ m * 18446744073709551616 = x.err in
    let ye : b.err ≤ n * 18446744073709551616 = y.err in
    let xf : a.failed ≤ m = x.failed in
    let yf : b.failed ≤ n = y.failed in
    subst (λ z. IsBounded z (m + n)) (sym e) (record { out = omega arith; err = omega arith; failed = omega arith })

-- the sums of totals of fewer than 2 ^ 64 pieces
pub room_out : (a b : Totals) (m n : ℕ) → IsBounded a m → IsBounded b n → m + n < 18446744073709551616 → a.out + b.out < 340282366920938463463374607431768211456
room_out a b m n x y l =
    let xo : a.out ≤ m * 18446744073709551616 = x.out in
    let yo : b.out ≤ n * 18446744073709551616 = y.out in
    omega arith

pub room_err : (a b : Totals) (m n : ℕ) → IsBounded a m → IsBounded b n → m + n < 18446744073709551616 → a.err + b.err < 340282366920938463463374607431768211456
room_err a b m n x y l =
    let xe : a.err ≤ m * 18446744073709551616 = x.err in
    let ye : b.err ≤ n * 18446744073709551616 = y.err in
    omega arith

pub room_failed : (a b : Totals) (m n : ℕ) → IsBounded a m → IsBounded b n → m + n < 18446744073709551616 → a.failed + b.failed < 18446744073709551616
room_failed a b m n x y l =
    let xf : a.failed ≤ m = x.failed in
    let yf : b.failed ≤ n = y.failed in
    omega arith

-- ---- the pieces of pages

pub all_pieces_more : {T : Type 0} (ps : List (Page T)) (i : ℕ) (p : Page T) → i < length ps → p ≡ get_or ps i p → all_pieces (take (i + 1) ps) ≡ all_pieces (take i ps) ++ pieces_in p
all_pieces_more ps i p l e = ap all_pieces ((take_at_read ps i p l).1 ∙ ap (λ z. take i ps ++ z ∷ []) (sym e)) ∙ flat_map-append pieces_in (take i ps) (p ∷ []) ∙ ap (λ z. all_pieces (take i ps) ++ z) (append-nil (pieces_in p))

-- the pieces of a part of some pages are fewer than all
pub pieces_part : {T : Type 0} (ps : List (Page T)) (i : ℕ) → (length (all_pieces (take i ps)) ≤ length (all_pieces ps)) × (length (all_pieces (drop i ps)) ≤ length (all_pieces ps))
pieces_part ps i =
    let e : length (all_pieces ps) ≡ length (all_pieces (take i ps)) + length (all_pieces (drop i ps)) = ap (λ z. length (all_pieces z)) (sym (take-append-drop i ps)) ∙ ap length (flat_map-append pieces_in (take i ps) (drop i ps)) ∙ length-append (all_pieces (take i ps)) (all_pieces (drop i ps)) in
    (omega arith, omega arith)

pub grown_pieces : {T : Type 0} (ps : List (Page T)) (i : ℕ) (p : Page T) → i < length ps → p ≡ get_or ps i p → length (all_pieces (take (i + 1) ps)) ≡ length (all_pieces (take i ps)) + length p.pieces.items.items
grown_pieces ps i p l e = ap length (all_pieces_more ps i p l e) ∙ length-append (all_pieces (take i ps)) (pieces_in p) ∙ ap (λ n. length (all_pieces (take i ps)) + n) (map_length piece_view p.pieces.items.items)

pub few_here : {T : Type 0} (ps : List (Page T)) (i : ℕ) (p : Page T) → i < length ps → p ≡ get_or ps i p → length (all_pieces ps) < 4294967296 → length (all_pieces (take i ps)) + length p.pieces.items.items < 18446744073709551616
few_here ps i p l e few =
    let n : length (all_pieces (take (i + 1) ps)) ≡ length (all_pieces (take i ps)) + length p.pieces.items.items = grown_pieces ps i p l e in
    let m : length (all_pieces (take (i + 1) ps)) ≤ length (all_pieces ps) = (pieces_part ps (i + 1)).0 in
    omega arith

pub bounded_with : {T : Type 0} (a c : Totals) (ps : List (Page T)) (i : ℕ) (p : Page T) → i < length ps → p ≡ get_or ps i p → IsBounded a (length (all_pieces (take i ps))) → c ≡ joined a p.pieces.sum → IsBounded c (length (all_pieces (take (i + 1) ps)))
bounded_with a c ps i p l e b x = subst (λ n. IsBounded c n) (sym (grown_pieces ps i p l e)) (bounded_joined a p.pieces.sum c _ _ b p.pieces.bounded x)
