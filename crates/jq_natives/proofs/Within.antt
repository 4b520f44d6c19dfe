-- Whether a text contains another, by its bytes and by its code points.
use Rattle.std.proofs.Common.{◌≡◌, ◌∙◌, ℕ, zero, suc, ◌+◌, ◌<◌, ◌≤◌, inl, inr, List, ◌++◌, Bool, true, false, length, take, drop, None, refl, sym, ap, subst, arith}
use Rattle.std.proofs.Math.Seq.{take-append_seam, drop-append_seam}
use Rattle.std.proofs.lemmas.Bool.{cases_lt, false_from_ne_true, or_left, or_right}
use Rattle.std.proofs.lemmas.List.{take-append-drop, length-append, length-take-le}
use Rattle.std.proofs.lemmas.Slice.Eq.{bytes_eq-Decides}
use Rattle.std.proofs.lemmas.Str.{IsUtf8-append, IsUtf8-take, IsUtf8-drop, IsCharBoundary-at_seam, chars-append}
use Rattle.std.specs.Bool.{nat_eq, MatchBool}
use Rattle.std.specs.Prelude.{◌||◌}
use Rattle.std.specs.List.{list_any, starts_with, range_with_len}
use Rattle.std.specs.Str.{chars, IsUtf8, IsCharBoundary}
use Rattle.std.specs.Str.Pattern.{FindsText, HasMatch}
use Rattle.jv_data.proofs.shared.Texts.{bytes_around}
use Rattle.jq_natives.specs.Containment.{is_within}
use lib.Utf8.{encodes}

-- ---- a range with an index that passes a test

any_yes : (p : ℕ → Bool) (a n i : ℕ) → a ≤ i → i < a + n → p i ≡ true → list_any p (range_with_len a n) ≡ true
any_yes p a zero i low high e = absurd (omega arith)
any_yes p a (suc n) i low high e = elim (cases_lt a i) [
  | inl h ↦ or_right (p a) (list_any p (range_with_len (a + 1) n)) (any_yes p (a + 1) n i (omega arith) (omega arith) e)
  | inr h ↦ let same : i ≡ a = omega arith in or_left (p a) (list_any p (range_with_len (a + 1) n)) (ap p (sym same) ∙ e)
]

any_found : (p : ℕ → Bool) (a n : ℕ) → list_any p (range_with_len a n) ≡ true → (i : ℕ) × (p i ≡ true)
any_found p a zero e = cc
any_found p a (suc n) e = go (any_found p (a + 1) n) (p a) refl e
  where
    go : (list_any p (range_with_len (a + 1) n) ≡ true → (i : ℕ) × (p i ≡ true)) → (b : Bool) → p a ≡ b → (b || list_any p (range_with_len (a + 1) n)) ≡ true → (i : ℕ) × (p i ≡ true)
    go later true f g = (a, f)
    go later false f g = later g

-- ---- by code points

within_yes : (part front rest : List ℕ) → is_within part (front ++ (part ++ rest)) ≡ true
within_yes part front rest =
    let whole = front ++ (part ++ rest) in
    let here : starts_with nat_eq (drop (length front) whole) part ≡ true =
    ap (λ xs. starts_with nat_eq xs part) (drop-append_seam front (part ++ rest)) ∙ (bytes_eq-Decides part (take (length part) (part ++ rest))).1 (sym (take-append_seam part rest)) in
    any_yes (λ i. starts_with nat_eq (drop i whole) part) 0 (length whole + 1) (length front) (omega arith) (omega (arith, length-append front (part ++ rest))) here

within_found : (part whole : List ℕ) → is_within part whole ≡ true → (q : List ℕ) × (t : List ℕ) × (whole ≡ q ++ (part ++ t))
within_found part whole e =
    let found = any_found (λ i. starts_with nat_eq (drop i whole) part) 0 (length whole + 1) e in
    let i = found.0 in
    let n = length part in
    let rest = drop n (drop i whole) in
    let following : drop i whole ≡ part ++ rest =
    sym (take-append-drop n (drop i whole)) ∙ ap (λ f. f ++ rest) (sym ((bytes_eq-Decides part (take n (drop i whole))).0 found.1)) in
    (take i whole, rest, sym (take-append-drop i whole) ∙ ap (λ xs. take i whole ++ xs) following)

-- ---- by bytes

has_match : (part bs : List ℕ) → IsUtf8 part → IsUtf8 bs → HasMatch (FindsText part) bs → is_within (chars part) (chars bs) ≡ true
has_match part bs up ub (i, j, finds, low, high) =
    let stands = finds.1 in
    let front = take i bs in
    let back = drop j bs in
    let split : bs ≡ front ++ (part ++ back) = sym (take-append-drop i bs) ∙ ap (λ xs. front ++ xs) stands.split in
    let later : IsUtf8 back = rw stands.ends (IsUtf8-drop bs (i + length part) ub stands.after) in
    let both : IsUtf8 (part ++ back) = IsUtf8-append part back up later in
    let front_len : length front ≡ i = length-take-le i bs (omega arith) in
    let before : IsUtf8 front = IsUtf8-take bs i ub (subst (IsCharBoundary bs) front_len (IsCharBoundary-at_seam bs front (part ++ back) split both)) in
    let seen : chars bs ≡ chars front ++ (chars part ++ chars back) = ap chars split ∙ chars-append front (part ++ back) before ∙ ap (λ xs. chars front ++ xs) (chars-append part back up) in
    ap (is_within (chars part)) seen ∙ within_yes (chars part) (chars front) (chars back)

no_match : (part bs : List ℕ) → IsUtf8 part → IsUtf8 bs → FindsText part bs None → is_within (chars part) (chars bs) ≡ false
no_match part bs up ub lacks = false_from_ne_true _ (λ e.
    let found = within_found (chars part) (chars bs) e in
    let q = found.0 in
    let t = found.1 in
    let whole : bs ≡ encodes q ++ (part ++ encodes t) = bytes_around part bs q t up ub found.2 in
    let within : length (encodes q) ≤ length bs = omega (arith, ap length whole ∙ length-append (encodes q) (part ++ encodes t)) in
    lacks (length (encodes q)) within (encodes t) (ap (drop (length (encodes q))) whole ∙ drop-append_seam (encodes q) (part ++ encodes t)))

-- what `contains` answers for two texts
pub text_within : (r : Bool) (part bs : List ℕ) → IsUtf8 part → IsUtf8 bs → MatchBool r (HasMatch (FindsText part) bs) (FindsText part bs None) → r ≡ is_within (chars part) (chars bs)
text_within true part bs up ub h = sym (has_match part bs up ub h)
text_within false part bs up ub h = sym (no_match part bs up ub h)
