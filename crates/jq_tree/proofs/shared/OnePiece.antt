-- A piece of a string represents one list of characters, and ends at one position.
use Rattle.std.proofs.Common.{◌≡◌, ℕ, zero, suc, ◌+◌, ◌-◌, ◌*◌, List, [], ◌∷◌, ◌++◌, Bool, true, false, not, ◌&&◌, ◌||◌, nat_eq, refl, sym, ap, ◌∙◌}
use Rattle.std.specs.Prelude.{Some}
use Rattle.std.proofs.lemmas.Bool.Decides.{Decides-eqb}
use Rattle.jq_tree.specs.Token.{Token, piece, interpolation}
use Rattle.jq_tree.specs.Lexing.{Hex, is_high_surrogate, escaped, is_plain, Content, no_content, plain, escape, unicode, pair, Parenthesis, Spot, Piece, ended, interpolated}
use Rattle.jq_tree.proofs.shared.Escapes.{nth, differ, no_plain, no_escape, hex_is, hex_at, value_of}
use Rattle.jq_tree.proofs.shared.OneNumber.{tail_of}

-- ---- what ends a piece

abbrev starts_bracket : List ℕ → Bool
starts_bracket [] = false
starts_bracket (c ∷ cs) = nat_eq c 40

-- A quote, or `\(`.
abbrev is_end : List ℕ → Bool
is_end [] = false
is_end (c ∷ cs) = nat_eq c 34 || (nat_eq c 92 && starts_bracket cs)

abbrev rest_at : ℕ → List ℕ → List ℕ
rest_at zero cs = cs
rest_at (suc n) [] = []
rest_at (suc n) (c ∷ cs) = rest_at n cs

plain_no_end : (c : ℕ) (cs : List ℕ) → is_plain c ≡ true → is_end (c ∷ cs) ≡ true → ⊥
plain_no_end c cs p h = neither (nat_eq c 34) (nat_eq c 92) (starts_bracket cs) p h
  where
    neither : (a b x : Bool) → not (a || b) ≡ true → (a || (b && x)) ≡ true → ⊥
    neither true b x e f = cc e
    neither false true x e f = cc e
    neither false false x e f = cc f

escape_no_end : (c e : ℕ) (cs : List ℕ) → escaped c ≡ Some e → is_end (92 ∷ c ∷ cs) ≡ true → ⊥
escape_no_end c e cs p h = let k : c ≡ 40 = (Decides-eqb c 40).0 h in no_escape 40 refl (sym k) p

-- (`\u` is no end.)
no_end : false ≡ true → ⊥
no_end h = cc h

-- ---- escapes by their four digits

same_digits : {a b c d e f g h m n : ℕ} → a ≡ e → b ≡ f → c ≡ g → d ≡ h → Hex a b c d m → Hex e f g h n → m ≡ n
same_digits {a} {b} {c} {d} {m = m} {n = n} p q r t x y = ap value_of (sym (hex_is x) ∙ hex_at a b c d p q r t y)

same_pair : {h i l m : ℕ} → h ≡ i → l ≡ m → 0x10000 + (h - 0xd800) * 0x400 + (l - 0xdc00) ≡ 0x10000 + (i - 0xd800) * 0x400 + (m - 0xdc00)
same_pair {h} {i} {l} {m} e f = ap (λ (x : ℕ). 0x10000 + (x - 0xd800) * 0x400 + (l - 0xdc00)) e ∙ ap (λ (x : ℕ). 0x10000 + (i - 0xd800) * 0x400 + (x - 0xdc00)) f

longer : {a b : ℕ} {s t : List ℕ} → a ≡ b → s ≡ t → a ∷ s ≡ b ∷ t
longer {a} {b} {s} {t} e f = ap (λ (x : ℕ). x ∷ s) e ∙ ap (λ (l : List ℕ). b ∷ l) f

-- ---- the characters of a piece

one_content : {cs ds s t : List ℕ} (r q : List ℕ) → Content cs s → Content ds t → is_end r ≡ true → is_end q ≡ true → cs ++ r ≡ ds ++ q → (s ≡ t) × (r ≡ q)
one_content r q no_content no_content a b e = (refl, e)
one_content r q no_content (plain {c} {cs} p k) a b e = absurd (plain_no_end c (cs ++ q) p (sym (ap is_end e) ∙ a))
one_content r q no_content (escape {c} {e = x} {cs} p k) a b e = absurd (escape_no_end c x (cs ++ q) p (sym (ap is_end e) ∙ a))
one_content r q no_content (unicode x i j k) a b e = absurd (no_end (sym (ap is_end e) ∙ a))
one_content r q no_content (pair x y i j k) a b e = absurd (no_end (sym (ap is_end e) ∙ a))
one_content r q (plain {c} {cs} p h) no_content a b e = absurd (plain_no_end c (cs ++ r) p (ap is_end e ∙ b))
one_content r q (escape {c} {e = x} {cs} p h) no_content a b e = absurd (escape_no_end c x (cs ++ r) p (ap is_end e ∙ b))
one_content r q (unicode x i j h) no_content a b e = absurd (no_end (ap is_end e ∙ b))
one_content r q (pair x y i j h) no_content a b e = absurd (no_end (ap is_end e ∙ b))
one_content r q (plain p h) (plain o k) a b e =
    let f = one_content r q h k a b (ap tail_of e) in (longer (ap (nth 0) e) (f.0), f.1)
one_content r q (plain p h) (escape o k) a b e = absurd (no_plain (sym (ap (nth 0) e)) p)
one_content r q (plain p h) (unicode x i j k) a b e = absurd (no_plain (sym (ap (nth 0) e)) p)
one_content r q (plain p h) (pair x y i j k) a b e = absurd (no_plain (sym (ap (nth 0) e)) p)
one_content r q (escape p h) (plain o k) a b e = absurd (no_plain (ap (nth 0) e) o)
one_content r q (unicode x i j h) (plain o k) a b e = absurd (no_plain (ap (nth 0) e) o)
one_content r q (pair x y i j h) (plain o k) a b e = absurd (no_plain (ap (nth 0) e) o)
one_content r q (escape p h) (escape o k) a b e =
    let f = one_content r q h k a b (ap (rest_at 2) e) in
    (longer (ap value_of (sym p ∙ ap escaped (ap (nth 1) e) ∙ o)) (f.0), f.1)
one_content r q (escape p h) (unicode x i j k) a b e = absurd (no_escape 117 refl (sym (ap (nth 1) e)) p)
one_content r q (escape p h) (pair x y i j k) a b e = absurd (no_escape 117 refl (sym (ap (nth 1) e)) p)
one_content r q (unicode x i j h) (escape o k) a b e = absurd (no_escape 117 refl (ap (nth 1) e) o)
one_content r q (pair x y i j h) (escape o k) a b e = absurd (no_escape 117 refl (ap (nth 1) e) o)
one_content r q (unicode x i j h) (unicode y l m k) a b e =
    let f = one_content r q h k a b (ap (rest_at 6) e) in
    (longer (same_digits (ap (nth 2) e) (ap (nth 3) e) (ap (nth 4) e) (ap (nth 5) e) x y) (f.0), f.1)
one_content r q (unicode x i j h) (pair y z l m k) a b e =
    absurd (differ is_high_surrogate (sym (same_digits (ap (nth 2) e) (ap (nth 3) e) (ap (nth 4) e) (ap (nth 5) e) x y)) l i)
one_content r q (pair x y i j h) (unicode z l m k) a b e =
    absurd (differ is_high_surrogate (same_digits (ap (nth 2) e) (ap (nth 3) e) (ap (nth 4) e) (ap (nth 5) e) x z) i l)
one_content r q (pair x y i j h) (pair z w l m k) a b e =
    let f = one_content r q h k a b (ap (rest_at 12) e) in
    let high = same_digits (ap (nth 2) e) (ap (nth 3) e) (ap (nth 4) e) (ap (nth 5) e) x z in
    let low = same_digits (ap (nth 8) e) (ap (nth 9) e) (ap (nth 10) e) (ap (nth 11) e) y w in
    (longer (same_pair high low) (f.0), f.1)

-- ---- a piece

pub one_piece : {opened : List Parenthesis} {text rest left : List ℕ} {ts us : List Token} {spot end : Spot}
    → Piece opened text ts spot rest → Piece opened text us end left → (ts ≡ us) × (spot ≡ end) × (rest ≡ left)
one_piece (ended cs {rest = r} e h) (ended ds {rest = q} f k) =
    let i = one_content (34 ∷ r) (34 ∷ q) h k refl refl (sym e ∙ f) in (ap (λ (s : List ℕ). piece s ∷ []) (i.0), refl, ap tail_of (i.1))
one_piece (ended cs {rest = r} e h) (interpolated ds {rest = q} f k) =
    let i = one_content (34 ∷ r) (92 ∷ 40 ∷ q) h k refl refl (sym e ∙ f) in absurd (differ (nat_eq 34) (ap (nth 0) (i.1)) refl refl)
one_piece (interpolated cs {rest = r} e h) (ended ds {rest = q} f k) =
    let i = one_content (92 ∷ 40 ∷ r) (34 ∷ q) h k refl refl (sym e ∙ f) in absurd (differ (nat_eq 92) (ap (nth 0) (i.1)) refl refl)
one_piece (interpolated cs {rest = r} e h) (interpolated ds {rest = q} f k) =
    let i = one_content (92 ∷ 40 ∷ r) (92 ∷ 40 ∷ q) h k refl refl (sym e ∙ f) in
    (ap (λ (s : List ℕ). piece s ∷ interpolation ∷ []) (i.0), refl, ap (rest_at 2) (i.1))
