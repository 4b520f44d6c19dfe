-- Shifting the digits of a number solves the equation for the value of its text.
use Rattle.std.proofs.Common.{◌≡◌, ℕ, zero, suc, lit<, ◌+◌, ◌-◌, ◌*◌, ◌^◌, ◌<◌, ◌≤◌, ◌⊎◌, inl, inr, List, [], ◌∷◌, ◌++◌, length, take, drop, refl, sym, ap, ◌∙◌, subst, arith, length-drop}
use Rattle.std.proofs.lemmas.Bool.{cases_order, cases_lt}
use Rattle.std.proofs.lemmas.Int.Digits.{digits_value-lt}
use Rattle.std.proofs.lemmas.List.{take-append-drop, take_all, drop_all}
use Rattle.std.proofs.lemmas.Nat.{pow-add}
use Rattle.std.proofs.Math.Nat.{mul-le-mul_right, pow-suc, pow-le-pow_right, pow-zero, mul_assoc}
use Rattle.std.specs.Char.{digit_value}
use Rattle.std.specs.Str.Parse.{digits_value, digits_value_after, AllDigits}

after_append : (n : ℕ) (xs ys : List ℕ) → digits_value_after 10 n (xs ++ ys) ≡ digits_value_after 10 (digits_value_after 10 n xs) ys
after_append n [] ys = refl
after_append n (x ∷ xs) ys = after_append (n * 10 + digit_value x) xs ys

after_is : (n : ℕ) (ds : List ℕ) → digits_value_after 10 n ds ≡ n * 10 ^ length ds + digits_value 10 ds
after_is n [] = omega arith
after_is n (c ∷ cs) =
    let a = after_is (n * 10 + digit_value c) cs in
    let b = after_is (0 * 10 + digit_value c) cs in
    omega (arith, ap (λ x. n * x) (pow-suc 10 (length cs)))

-- the digits of two texts, one after the other
pub digits_value-append : (xs ys : List ℕ) → digits_value 10 (xs ++ ys) ≡ digits_value 10 xs * 10 ^ length ys + digits_value 10 ys
digits_value-append xs ys = after_append 0 xs ys ∙ after_is (digits_value 10 xs) ys

-- a quotient and a remainder are determined
pub divided : (n t r p : ℕ) → r < p → n * p ≡ t * p + r → (n ≡ t) × (r ≡ 0)
divided n t r p small e =
    elim (cases_order n t) [
      | inl same ↦ let f : n * p ≡ t * p = ap (λ x. x * p) same in (same, omega arith)
      | inr (inl lt) ↦ let h : (n + 1) * p ≤ t * p = mul-le-mul_right p (omega arith) in absurd (omega arith)
      | inr (inr gt) ↦ let h : (t + 1) * p ≤ n * p = mul-le-mul_right p (omega arith) in absurd (omega arith)
    ]

cancelled : (n x q : ℕ) → 0 < q → n * q ≡ x * q → n ≡ x
cancelled n x q h e = (divided n x 0 q h (omega arith)).0

pub all_digits-append : (xs ys : List ℕ) → AllDigits 10 xs → AllDigits 10 ys → AllDigits 10 (xs ++ ys)
all_digits-append [] ys h k = k
all_digits-append (x ∷ xs) ys h k = (h.0, all_digits-append xs ys h.1 k)

all_digits-drop : (k : ℕ) (xs : List ℕ) → AllDigits 10 xs → AllDigits 10 (drop k xs)
all_digits-drop zero xs h = h
all_digits-drop (suc k) [] h = tt
all_digits-drop (suc k) (x ∷ xs) h = all_digits-drop k xs h.1

pub ten_pos : (k : ℕ) → 0 < 10 ^ k
ten_pos k = let e = pow-zero 10 in let h : 10 ^ 0 ≤ 10 ^ k = pow-le-pow_right {n = 10} (lit< tt) {i = 0} {j = k} (omega arith) in omega arith

-- n times 10 ^ down is the digits times 10 ^ up, and the point is moved to the position k
pub record Moved (k count down up : ℕ) : Type 0 where
  pub moved : (k + down ≡ count + up) ⊎ ((k ≡ 0) × (up ≡ 0) × (count ≤ down))

-- the digits before the position k, with zeros up to it, are n, and those after it are 0
pub record Shifted (ds : List ℕ) (k n : ℕ) : Type 0 where
  pub after : digits_value 10 (drop k ds) ≡ 0
  pub before : n ≡ digits_value 10 (take k ds) * 10 ^ (k - length ds)

split_at : (k : ℕ) (ds : List ℕ) → digits_value 10 ds ≡ digits_value 10 (take k ds) * 10 ^ (length ds - k) + digits_value 10 (drop k ds)
split_at k ds = ap (digits_value 10) (sym (take-append-drop k ds)) ∙ digits_value-append (take k ds) (drop k ds) ∙ ap (λ l. digits_value 10 (take k ds) * 10 ^ l + digits_value 10 (drop k ds)) (length-drop k ds)

after_small : (k : ℕ) (ds : List ℕ) → AllDigits 10 ds → digits_value 10 (drop k ds) < 10 ^ (length ds - k)
after_small k ds h = let P : ℕ → Type 0 = λ l. digits_value 10 (drop k ds) < 10 ^ l in subst P (length-drop k ds) (digits_value-lt 10 (drop k ds) (all_digits-drop k ds h))

-- ---- the point is among the digits

within_solves : (t r p q n : ℕ) → r < p → 0 < q → n * (p * q) ≡ (t * p + r) * q → (n ≡ t) × (r ≡ 0)
within_solves t r p q n small more e = divided n t r p small (cancelled (n * p) (t * p + r) q more (omega (arith, e)))

within_is : (t p q n : ℕ) → n ≡ t → n * (p * q) ≡ (t * p + 0) * q
within_is t p q n e = rw e (omega arith)

tens_apart : (k count down up : ℕ) → k + down ≡ count + up → k ≤ count → 10 ^ down ≡ 10 ^ (count - k) * 10 ^ up
tens_apart k count down up e h = let f : down ≡ count - k + up = omega arith in ap (λ x. 10 ^ x) f ∙ pow-add 10 (count - k) up

no_tens : (k count : ℕ) → k ≤ count → 10 ^ (k - count) ≡ 1
no_tens k count h = let f : k - count ≡ 0 = omega arith in ap (λ x. 10 ^ x) f ∙ pow-zero 10

near_writes : (ds : List ℕ) (k down up n : ℕ) → k + down ≡ length ds + up → k ≤ length ds → Shifted ds k n → n * 10 ^ down ≡ digits_value 10 ds * 10 ^ up
near_writes ds k down up n e near s =
    let t = digits_value 10 (take k ds) in
    let b : n ≡ t = omega (arith, s.before, ap (λ x. t * x) (no_tens k (length ds) near)) in
    let d : digits_value 10 ds ≡ t * 10 ^ (length ds - k) + 0 = split_at k ds ∙ ap (λ x. t * 10 ^ (length ds - k) + x) s.after in
    ap (λ x. n * x) (tens_apart k (length ds) down up e near) ∙ within_is t (10 ^ (length ds - k)) (10 ^ up) n b ∙ ap (λ x. x * 10 ^ up) (sym d)

writes_near : (ds : List ℕ) (k down up n : ℕ) → AllDigits 10 ds → k + down ≡ length ds + up → k ≤ length ds → n * 10 ^ down ≡ digits_value 10 ds * 10 ^ up → Shifted ds k n
writes_near ds k down up n all e near w =
    let t = digits_value 10 (take k ds) in
    let r = digits_value 10 (drop k ds) in
    let both = within_solves t r (10 ^ (length ds - k)) (10 ^ up) n (after_small k ds all) (ten_pos up) (ap (λ x. n * x) (sym (tens_apart k (length ds) down up e near)) ∙ w ∙ ap (λ x. x * 10 ^ up) (split_at k ds)) in
    record { after = both.1; before = omega (arith, both.0, ap (λ x. t * x) (no_tens k (length ds) near)) }

tens_beyond : (k count down up : ℕ) → k + down ≡ count + up → count < k → 10 ^ up ≡ 10 ^ (k - count) * 10 ^ down
tens_beyond k count down up e h = let f : up ≡ k - count + down = omega arith in ap (λ x. 10 ^ x) f ∙ pow-add 10 (k - count) down

far_writes : (ds : List ℕ) (k down up n : ℕ) → k + down ≡ length ds + up → length ds < k → Shifted ds k n → n * 10 ^ down ≡ digits_value 10 ds * 10 ^ up
far_writes ds k down up n e far s =
    let d = digits_value 10 ds in
    let t = ap (digits_value 10) (take_all k ds (omega arith)) in
    let b : n ≡ d * 10 ^ (k - length ds) = s.before ∙ ap (λ x. x * 10 ^ (k - length ds)) t in
    ap (λ x. x * 10 ^ down) b ∙ mul_assoc d (10 ^ (k - length ds)) (10 ^ down) ∙ ap (λ x. d * x) (sym (tens_beyond k (length ds) down up e far))

writes_far : (ds : List ℕ) (k down up n : ℕ) → k + down ≡ length ds + up → length ds < k → n * 10 ^ down ≡ digits_value 10 ds * 10 ^ up → Shifted ds k n
writes_far ds k down up n e far w =
    let d = digits_value 10 ds in
    let t = ap (digits_value 10) (take_all k ds (omega arith)) in
    let f = w ∙ ap (λ x. d * x) (tens_beyond k (length ds) down up e far) ∙ sym (mul_assoc d (10 ^ (k - length ds)) (10 ^ down)) in
    record {
      after = ap (digits_value 10) (drop_all k ds (omega arith));
      before = cancelled n (d * 10 ^ (k - length ds)) (10 ^ down) (ten_pos down) f ∙ ap (λ x. x * 10 ^ (k - length ds)) (sym t);
    }

nothing : (x : ℕ) → 0 * x ≡ 0
nothing x = omega arith

low_writes : (ds : List ℕ) (k down up n : ℕ) → (k ≡ 0) × (up ≡ 0) × (length ds ≤ down) → Shifted ds k n → n * 10 ^ down ≡ digits_value 10 ds * 10 ^ up
low_writes ds k down up n e s =
    let none : n ≡ 0 = s.before ∙ ap (λ j. digits_value 10 (take j ds) * 10 ^ (j - length ds)) e.0 ∙ nothing (10 ^ (0 - length ds)) in
    let zero_all : digits_value 10 ds ≡ 0 = ap (λ j. digits_value 10 (drop j ds)) (sym e.0) ∙ s.after in
    ap (λ x. x * 10 ^ down) none ∙ nothing (10 ^ down) ∙ sym (nothing (10 ^ up)) ∙ ap (λ x. x * 10 ^ up) (sym zero_all)

writes_low : (ds : List ℕ) (k down up n : ℕ) → AllDigits 10 ds → (k ≡ 0) × (up ≡ 0) × (length ds ≤ down) → n * 10 ^ down ≡ digits_value 10 ds * 10 ^ up → Shifted ds k n
writes_low ds k down up n all e w =
    let d = digits_value 10 ds in
    let one : 10 ^ up ≡ 1 = ap (λ x. 10 ^ x) e.1 ∙ pow-zero 10 in
    let less : d < 10 ^ length ds = digits_value-lt 10 ds all in
    let more : 10 ^ length ds ≤ 10 ^ down = pow-le-pow_right (lit< tt) e.2 in
    let f : n * 10 ^ down ≡ 0 * 10 ^ down + d = w ∙ ap (λ x. d * x) one ∙ omega arith in
    let both = divided n 0 d (10 ^ down) (omega arith) f in
    record {
      after = ap (λ j. digits_value 10 (drop j ds)) e.0 ∙ both.1;
      before = both.0 ∙ sym (nothing (10 ^ (0 - length ds))) ∙ ap (λ j. digits_value 10 (take j ds) * 10 ^ (j - length ds)) (sym e.0);
    }

-- the number by shifting is the number of the text
pub shifted_writes : (ds : List ℕ) (k down up n : ℕ) → AllDigits 10 ds → Moved k (length ds) down up → Shifted ds k n → n * 10 ^ down ≡ digits_value 10 ds * 10 ^ up
shifted_writes ds k down up n all m s =
    elim m.moved [
      | inl e ↦ elim (cases_lt (length ds) k) [
        | inl far ↦ far_writes ds k down up n e far s
        | inr near ↦ near_writes ds k down up n e near s
      ]
      | inr e ↦ low_writes ds k down up n e s
    ]

-- the number of the text is the number by shifting
pub writes_shifted : (ds : List ℕ) (k down up n : ℕ) → AllDigits 10 ds → Moved k (length ds) down up → n * 10 ^ down ≡ digits_value 10 ds * 10 ^ up → Shifted ds k n
writes_shifted ds k down up n all m w =
    elim m.moved [
      | inl e ↦ elim (cases_lt (length ds) k) [
        | inl far ↦ writes_far ds k down up n e far w
        | inr near ↦ writes_near ds k down up n all e near w
      ]
      | inr e ↦ writes_low ds k down up n all e w
    ]
