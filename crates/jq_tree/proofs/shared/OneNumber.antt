-- The text of a number has one value.
use Rattle.std.proofs.Common.{◌≡◌, ℕ, ◌+◌, ◌*◌, ◌/◌, ◌^◌, ◌<◌, List, [], ◌∷◌, ◌++◌, length, Bool, true, false, ◌&&◌, ◌||◌, nat_eq, refl, sym, ap, subst, ◌∙◌, inl, inr, eq-eqb, arith, lit<}
use Rattle.std.proofs.Math.Nat.{mul-div_cancel, one-le-pow}
use Rattle.std.proofs.lemmas.Bool.{or_left, or_from, cond-false, or_parts}
use Rattle.std.proofs.lemmas.Bool.Decides.{eqb_tells, leb_tells}
use Rattle.std.specs.Prelude.{nat_le, if◌then◌else◌}
use Rattle.std.specs.Str.Parse.{digits_value}
use Rattle.jq_tree.specs.Words.{every, is_letter, is_digit, is_digits, is_e, Numeral, Mantissa, whole_alone, with_point, point_first, Exponent, no_exponent, unsigned, with_plus, with_minus, IsNumeral, IsValue}
use Rattle.jq_tree.proofs.shared.Fronts.{and_left, and_right, digits_each}
use Rattle.jq_tree.proofs.shared.Valueless.{any_e, point_is_no_digit, split_front}

abbrev pub tail_of : List ℕ → List ℕ
tail_of [] = []
tail_of (c ∷ cs) = cs

abbrev pub first_one : List ℕ → ℕ
first_one [] = 0
first_one (c ∷ cs) = c

-- Two numbers that differ.
pub clash : {a b c : ℕ} → a ≡ b → a ≡ c → nat_eq b c ≡ false → ⊥
clash {a} {b} {c} e f g = let h : true ≡ false = sym (eq-eqb b c (sym e ∙ f)) ∙ g in cc h

-- A number that passes a test differs from one that does not.
pub other_than : (test : ℕ → Bool) (c k : ℕ) → test c ≡ true → test k ≡ false → nat_eq c k ≡ false
other_than test c k h n = elim (eqb_tells c k) [
  | inl p ↦ let e : true ≡ false = sym h ∙ ap test (p.1) ∙ n in absurd (cc e)
  | inr p ↦ p.0
]

-- ---- a numeral's parts

digit_no_e : (c : ℕ) → is_digit c ≡ true → is_e c ≡ false
digit_no_e c h = or_from (nat_eq c 101) (nat_eq c 69) (other_than is_digit c 101 h refl) (other_than is_digit c 69 h refl)

digits_no_e : (ds : List ℕ) → every is_digit ds ≡ true → any_e ds ≡ false
digits_no_e [] h = refl
digits_no_e (c ∷ cs) h = or_from (is_e c) (any_e cs) (digit_no_e c (and_left (is_digit c) (every is_digit cs) h)) (digits_no_e cs (and_right (is_digit c) (every is_digit cs) h))

join_no_e : (xs ys : List ℕ) → any_e xs ≡ false → any_e ys ≡ false → any_e (xs ++ ys) ≡ false
join_no_e [] ys h k = k
join_no_e (x ∷ xs) ys h k = let p = or_parts (is_e x) (any_e xs) h in or_from (is_e x) (any_e (xs ++ ys)) p.0 (join_no_e xs ys p.1 k)

mantissa_no_e : {xs ds fs : List ℕ} → Mantissa xs ds fs → any_e xs ≡ false
mantissa_no_e (whole_alone {ds} e h) = ap any_e e ∙ digits_no_e ds (digits_each ds h)
mantissa_no_e (with_point {ds} {fs} e h k) = ap any_e e ∙ join_no_e ds (46 ∷ fs) (digits_no_e ds (digits_each ds h)) (digits_no_e fs k)
mantissa_no_e (point_first {fs} e h) = ap any_e e ∙ digits_no_e fs (digits_each fs h)

abbrev pub starts_e : List ℕ → Bool
starts_e [] = true
starts_e (c ∷ cs) = is_e c

pub exponent_starts : {ys : List ℕ} {u d : ℕ} → Exponent ys u d → starts_e ys ≡ true
exponent_starts (no_exponent e) = ap starts_e e
exponent_starts (unsigned c ds e f g) = ap starts_e e ∙ f
exponent_starts (with_plus c ds e f g) = ap starts_e e ∙ f
exponent_starts (with_minus c ds e f g) = ap starts_e e ∙ f

no_e_stands : (x : ℕ) (xs ys zs : List ℕ) → any_e (x ∷ xs) ≡ false → starts_e ys ≡ true → ys ≡ x ∷ zs → ⊥
no_e_stands x xs ys zs a h e = let k : is_e x ≡ true = sym (ap starts_e e) ∙ h in
    let l : true ≡ false = sym (or_left (is_e x) (any_e xs) k) ∙ a in cc l

more_no_e : (x : ℕ) (xs : List ℕ) → any_e (x ∷ xs) ≡ false → any_e xs ≡ false
more_no_e x xs e = (or_parts (is_e x) (any_e xs) e).1

split_e : (xs us ys vs : List ℕ) → any_e xs ≡ false → any_e us ≡ false → starts_e ys ≡ true → starts_e vs ≡ true → xs ++ ys ≡ us ++ vs → (xs ≡ us) × (ys ≡ vs)
split_e [] [] ys vs a b h k e = (refl, e)
split_e [] (u ∷ us) ys vs a b h k e = absurd (no_e_stands u us ys (us ++ vs) b h e)
split_e (x ∷ xs) [] ys vs a b h k e = absurd (no_e_stands x xs vs (xs ++ ys) a k (sym e))
split_e (x ∷ xs) (u ∷ us) ys vs a b h k e =
    let f : x ≡ u = ap first_one e in
    let r = split_e xs us ys vs (more_no_e x xs a) (more_no_e u us b) h k (ap tail_of e) in
    (ap (λ (c : ℕ). c ∷ xs) f ∙ ap (λ (t : List ℕ). u ∷ t) (r.0), r.1)

one_mantissa : {xs ds fs es gs : List ℕ} → Mantissa xs ds fs → Mantissa xs es gs → (ds ≡ es) × (fs ≡ gs)
one_mantissa (whole_alone e h) (whole_alone f k) = (sym e ∙ f, refl)
one_mantissa (whole_alone {ds} e h) (with_point {ds = es} {fs = gs} f k l) =
    absurd (point_is_no_digit es gs (subst (λ (t : List ℕ). every is_digit t ≡ true) (sym e ∙ f) (digits_each ds h)))
one_mantissa (whole_alone {ds} e h) (point_first {fs = gs} f k) =
    absurd (point_is_no_digit [] gs (subst (λ (t : List ℕ). every is_digit t ≡ true) (sym e ∙ f) (digits_each ds h)))
one_mantissa (with_point {ds} {fs} e h l) (whole_alone {ds = es} f k) =
    absurd (point_is_no_digit ds fs (subst (λ (t : List ℕ). every is_digit t ≡ true) (sym f ∙ e) (digits_each es k)))
one_mantissa (with_point {ds} {fs} e h l) (with_point {ds = es} {fs = gs} f k m) = split_front ds fs es gs (digits_each ds h) (digits_each es k) (sym e ∙ f)
one_mantissa (with_point {ds} {fs} e h l) (point_first {fs = gs} f k) = split_front ds fs [] gs (digits_each ds h) refl (sym e ∙ f)
one_mantissa (point_first {fs} e h) (whole_alone {ds = es} f k) =
    absurd (point_is_no_digit [] fs (subst (λ (t : List ℕ). every is_digit t ≡ true) (sym f ∙ e) (digits_each es k)))
one_mantissa (point_first {fs} e h) (with_point {ds = es} {fs = gs} f k m) = split_front [] fs es gs refl (digits_each es k) (sym e ∙ f)
one_mantissa (point_first e h) (point_first f k) = (refl, ap tail_of (sym e ∙ f))

-- ---- the exponent

abbrev sign_after : List ℕ → ℕ
sign_after [] = 1
sign_after (c ∷ cs) = if nat_eq c 43 then 2 else if nat_eq c 45 then 3 else 1

abbrev sign_of : List ℕ → ℕ
sign_of [] = 0
sign_of (c ∷ cs) = sign_after cs

unsigned_sign : (ds : List ℕ) → is_digits ds ≡ true → sign_after ds ≡ 1
unsigned_sign [] h = absurd (cc h)
unsigned_sign (c ∷ cs) h = let k = and_left (is_digit c) (every is_digit cs) h in
    cond-false (nat_eq c 43) 2 (if nat_eq c 45 then 3 else 1) (other_than is_digit c 43 k refl) ∙ cond-false (nat_eq c 45) 3 1 (other_than is_digit c 45 k refl)

abbrev form : {ys : List ℕ} {u d : ℕ} → Exponent ys u d → ℕ
form (no_exponent e) = 0
form (unsigned c ds e f g) = 1
form (with_plus c ds e f g) = 2
form (with_minus c ds e f g) = 3

form_is : {ys : List ℕ} {u d : ℕ} (h : Exponent ys u d) → sign_of ys ≡ form h
form_is (no_exponent e) = ap sign_of e
form_is (unsigned c ds e f g) = ap sign_of e ∙ unsigned_sign ds g
form_is (with_plus c ds e f g) = ap sign_of e
form_is (with_minus c ds e f g) = ap sign_of e

one_exponent : {ys : List ℕ} {u v d w : ℕ} → Exponent ys u d → Exponent ys v w → (u ≡ v) × (d ≡ w)
one_exponent (no_exponent e) (no_exponent f) = (refl, refl)
one_exponent (unsigned c ds e f g) (unsigned a es h k l) = (ap (λ (t : List ℕ). digits_value 10 (tail_of t)) (sym e ∙ h), refl)
one_exponent (with_plus c ds e f g) (with_plus a es h k l) = (ap (λ (t : List ℕ). digits_value 10 (tail_of (tail_of t))) (sym e ∙ h), refl)
one_exponent (with_minus c ds e f g) (with_minus a es h k l) = (refl, ap (λ (t : List ℕ). digits_value 10 (tail_of (tail_of t))) (sym e ∙ h))
one_exponent h k = absurd (clash (form_is h) (form_is k) refl)

-- ---- the value

times_one : (m n k x : ℕ) → 0 < k → m * k ≡ x → n * k ≡ x → m ≡ n
times_one m n k x p e f = sym (mul-div_cancel m p) ∙ ap (λ (y : ℕ). y / k) (e ∙ sym f) ∙ mul-div_cancel n p

same_value : (m n : ℕ) {ds es fs gs : List ℕ} {u v d w : ℕ} → ds ≡ es → fs ≡ gs → u ≡ v → d ≡ w
    → m * 10 ^ (d + length fs) ≡ digits_value 10 (ds ++ fs) * 10 ^ u → n * 10 ^ (w + length gs) ≡ digits_value 10 (es ++ gs) * 10 ^ v → m ≡ n
same_value m n {ds} {es} {fs} {gs} {u} {v} {d} {w} a b c e h k =
    let scale : 10 ^ (d + length fs) ≡ 10 ^ (w + length gs) = ap (λ (y : ℕ). 10 ^ (y + length fs)) e ∙ ap (λ (l : List ℕ). 10 ^ (w + length l)) b in
    let value : digits_value 10 (ds ++ fs) * 10 ^ u ≡ digits_value 10 (es ++ gs) * 10 ^ v =
    ap (λ (l : List ℕ). digits_value 10 (l ++ fs) * 10 ^ u) a ∙ ap (λ (l : List ℕ). digits_value 10 (es ++ l) * 10 ^ u) b
    ∙ ap (λ (y : ℕ). digits_value 10 (es ++ gs) * 10 ^ y) c in
    times_one m n (10 ^ (d + length fs)) (digits_value 10 (ds ++ fs) * 10 ^ u) (one-le-pow (d + length fs) 10 (lit< tt)) h (ap (λ (y : ℕ). n * y) scale ∙ k ∙ sym value)

pub one_exact : {text : List ℕ} {r q : Numeral} {m n : ℕ} → IsNumeral text r → IsNumeral text q
    → m * 10 ^ (r.down + length r.fraction) ≡ digits_value 10 (r.whole ++ r.fraction) * 10 ^ r.up
    → n * 10 ^ (q.down + length q.fraction) ≡ digits_value 10 (q.whole ++ q.fraction) * 10 ^ q.up → m ≡ n
one_exact {text} {r} {q} {m} {n} h k v w =
    let parts = split_e h.mantissa k.mantissa h.exponent k.exponent (mantissa_no_e h.digits) (mantissa_no_e k.digits) (exponent_starts h.power) (exponent_starts k.power) (sym h.parts ∙ k.parts) in
    let digits = one_mantissa h.digits (subst (λ (t : List ℕ). Mantissa t q.whole q.fraction) (sym (parts.0)) k.digits) in
    let power = one_exponent h.power (subst (λ (t : List ℕ). Exponent t q.up q.down) (sym (parts.1)) k.power) in
    same_value m n (digits.0) (digits.1) (power.0) (power.1) v w

pub one_value : {text : List ℕ} {r q : Numeral} {m n : ℕ} → IsNumeral text r → IsNumeral text q → IsValue r m → IsValue q n → m ≡ n
one_value h k v w = one_exact h k v.exact w.exact

-- ---- the first character of a number

pub digit_no_letter : (c : ℕ) → is_digit c ≡ true → is_letter c ≡ false
digit_no_letter c h = three (nat_le 65 c) (nat_le c 90) (nat_le 97 c) (nat_le c 122) (nat_eq c 95) (above 65 (lit< tt)) (above 97 (lit< tt)) (other_than is_digit c 95 h refl)
  where
    three : (p q r s t : Bool) → p ≡ false → r ≡ false → t ≡ false → ((p && q) || (r && s) || t) ≡ false
    three true q r s t e f g = absurd (cc e)
    three false q true s t e f g = absurd (cc f)
    three false q false s t e f g = g

    above : (k : ℕ) → 57 < k → nat_le k c ≡ false
    above k e = elim (leb_tells k c) [
      | inl p ↦ let f = p.1 in absurd (elim (leb_tells c 57) [
        | inl q ↦ let g = q.1 in omega arith
        | inr q ↦ let i : true ≡ false = sym (and_right (nat_le 48 c) (nat_le c 57) h) ∙ q.0 in cc i
      ])
      | inr p ↦ p.0
    ]
