-- The longest number at the start of a text.
use Rattle.std.proofs.Common.{◌≡◌, ◌∙◌, ℕ, ◌+◌, List, [], ◌∷◌, ◌++◌, Bool, true, false, ◌&&◌, nat_eq, length, drop, refl, sym, ap, subst, inl, inr, arith, length-append, append_assoc}
use Rattle.std.proofs.Math.Seq.{drop-append_seam}
use Rattle.std.proofs.lemmas.Bool.{cases_Bool, and_from, or_from, cond-true, cond-false}
use Rattle.std.proofs.lemmas.Bool.Decides.{eqb_tells}
use Rattle.std.specs.Prelude.{◌⊎◌, if◌then◌else◌}
use Rattle.std.specs.Str.Parse.{digits_value}
use Rattle.jq_tree.specs.Words.{every, is_digit, is_digits, is_e, Numeral, Mantissa, whole_alone, with_point, point_first, Exponent, no_exponent, unsigned, with_plus, with_minus, IsNumeral, number_form}
use Rattle.jq_tree.proofs.shared.Fronts.{and_left, and_right, digits_each}
use Rattle.jq_tree.proofs.shared.OneNumber.{tail_of, other_than, starts_e, exponent_starts, first_one}
use Rattle.jq_tree.proofs.shared.Tags.{tag, mantissa_tag}
use Rattle.jq_lexer.specs.private.Found.{IsWordAt}
use Rattle.jq_lexer.specs.private.Numbers.{digits_length, fraction_length, after_letter, is_sign, power_length, exponent_length, mantissa_length, number_length}
use Rattle.jq_lexer.specs.declared.words.Shape.TheVariants as shape
use Rattle.jq_lexer.proofs.Tags.{only_number}
use Rattle.jq_lexer.proofs.Runs.{starts, run_of, no_more, longest_word, word_at}

-- ---- a test that each number passes

abbrev power_test : List ℕ → Bool
power_test [] = false
power_test (c ∷ cs) = if is_sign c then is_digits cs else is_digits (c ∷ cs)

abbrev exponent_test : List ℕ → Bool
exponent_test [] = true
exponent_test (c ∷ cs) = is_e c && power_test cs

abbrev fraction_test : List ℕ → Bool
fraction_test [] = true
fraction_test (c ∷ cs) = if is_digit c then fraction_test cs else exponent_test (c ∷ cs)

-- (Digits may be missing.)
abbrev number_test : List ℕ → Bool
number_test [] = true
number_test (c ∷ cs) = if is_digit c then number_test cs else if nat_eq c 46 then fraction_test cs else exponent_test (c ∷ cs)

digits_sign : (ds : List ℕ) → is_digits ds ≡ true → power_test ds ≡ true
digits_sign [] h = absurd (cc h)
digits_sign (c ∷ cs) h =
    let k = and_left (is_digit c) (every is_digit cs) h in
    let no_sign : is_sign c ≡ false = or_from (nat_eq c 43) (nat_eq c 45) (other_than is_digit c 43 k refl) (other_than is_digit c 45 k refl) in
    cond-false (is_sign c) (is_digits cs) (is_digits (c ∷ cs)) no_sign ∙ h

exponent_passes : {ys : List ℕ} {u d : ℕ} → Exponent ys u d → exponent_test ys ≡ true
exponent_passes (no_exponent e) = ap exponent_test e
exponent_passes (unsigned c ds e f g) = ap exponent_test e ∙ and_from (is_e c) (power_test ds) f (digits_sign ds g)
exponent_passes (with_plus c ds e f g) = ap exponent_test e ∙ and_from (is_e c) (is_digits ds) f g
exponent_passes (with_minus c ds e f g) = ap exponent_test e ∙ and_from (is_e c) (is_digits ds) f g

-- Leading digits do not change the test.
fraction_digits : (ds ys : List ℕ) → every is_digit ds ≡ true → fraction_test (ds ++ ys) ≡ fraction_test ys
fraction_digits [] ys h = refl
fraction_digits (c ∷ cs) ys h =
    cond-true (is_digit c) (fraction_test (cs ++ ys)) (exponent_test (c ∷ (cs ++ ys))) (and_left (is_digit c) (every is_digit cs) h)
    ∙ fraction_digits cs ys (and_right (is_digit c) (every is_digit cs) h)

number_digits : (ds ys : List ℕ) → every is_digit ds ≡ true → number_test (ds ++ ys) ≡ number_test ys
number_digits [] ys h = refl
number_digits (c ∷ cs) ys h =
    cond-true (is_digit c) (number_test (cs ++ ys)) _ (and_left (is_digit c) (every is_digit cs) h)
    ∙ number_digits cs ys (and_right (is_digit c) (every is_digit cs) h)

pub no_digit_e : (c : ℕ) → is_e c ≡ true → is_digit c ≡ false
no_digit_e c h = elim (cases_Bool (is_digit c)) [
  | inl d ↦ let k : is_e c ≡ false = or_from (nat_eq c 101) (nat_eq c 69) (other_than is_digit c 101 d refl) (other_than is_digit c 69 d refl) in
      let g : true ≡ false = sym h ∙ k in absurd (cc g)
  | inr d ↦ d
]

fraction_exponent : (ys : List ℕ) → starts_e ys ≡ true → exponent_test ys ≡ true → fraction_test ys ≡ true
fraction_exponent [] s h = refl
fraction_exponent (c ∷ cs) s h = cond-false (is_digit c) (fraction_test cs) (exponent_test (c ∷ cs)) (no_digit_e c s) ∙ h

number_exponent : (ys : List ℕ) → starts_e ys ≡ true → exponent_test ys ≡ true → number_test ys ≡ true
number_exponent [] s h = refl
number_exponent (c ∷ cs) s h =
    cond-false (is_digit c) (number_test cs) _ (no_digit_e c s) ∙ cond-false (nat_eq c 46) (fraction_test cs) (exponent_test (c ∷ cs)) (other_than is_e c 46 s refl) ∙ h

mantissa_passes : (xs ys : List ℕ) {ds fs : List ℕ} {u d : ℕ} → Mantissa xs ds fs → Exponent ys u d → number_test (xs ++ ys) ≡ true
mantissa_passes xs ys (whole_alone {ds} e h) k =
    ap (λ (t : List ℕ). number_test (t ++ ys)) e ∙ number_digits ds ys (digits_each ds h) ∙ number_exponent ys (exponent_starts k) (exponent_passes k)
mantissa_passes xs ys (with_point {ds} {fs} e h g) k =
    ap (λ (t : List ℕ). number_test (t ++ ys)) e ∙ ap number_test (append_assoc ds (46 ∷ fs) ys) ∙ number_digits ds (46 ∷ (fs ++ ys)) (digits_each ds h)
    ∙ fraction_digits fs ys g ∙ fraction_exponent ys (exponent_starts k) (exponent_passes k)
mantissa_passes xs ys (point_first {fs} e h) k =
    ap (λ (t : List ℕ). number_test (t ++ ys)) e ∙ fraction_digits fs ys (digits_each fs h) ∙ fraction_exponent ys (exponent_starts k) (exponent_passes k)

number_passes : (text : List ℕ) (r : Numeral) → IsNumeral text r → number_test text ≡ true
number_passes text r h = ap number_test h.parts ∙ mantissa_passes h.mantissa h.exponent h.digits h.power

-- ---- the exponent at the start

pub record ExponentAt (text : List ℕ) : Type 0 where
  pub front : List ℕ
  pub rest : List ℕ
  pub whole : text ≡ front ++ rest
  pub size : exponent_length text ≡ length front
  pub up : ℕ
  pub down : ℕ
  pub is : Exponent front up down
  pub longest : (x : ℕ) (xs after : List ℕ) → rest ≡ x ∷ (xs ++ after) → exponent_test (front ++ x ∷ xs) ≡ true → ⊥

-- A text that does not begin with a digit has no run of digits at its start.
no_digits : (p : List ℕ) (x : ℕ) (xs after : List ℕ) → starts is_digit p ≡ false → p ≡ x ∷ (xs ++ after) → is_digits (x ∷ xs) ≡ true → ⊥
no_digits p x xs after s e h = no_more is_digit [] p x xs after h e s

-- No exponent: no non-empty prefix of the text passes.
none_at : (text : List ℕ) → exponent_length text ≡ 0 → ((x : ℕ) (xs after : List ℕ) → text ≡ x ∷ (xs ++ after) → exponent_test (x ∷ xs) ≡ true → ⊥) → ExponentAt text
none_at text e k = record { front = []; rest = text; whole = refl; size = e; up = 0; down = 0; is = no_exponent refl; longest = k }

-- `e` and a sign.
signed_at : (c s : ℕ) (cs : List ℕ) → is_e c ≡ true → is_sign s ≡ true → ((ds : List ℕ) → is_digits ds ≡ true → (u : ℕ) × (d : ℕ) × Exponent (c ∷ s ∷ ds) u d)
    → exponent_length (c ∷ s ∷ cs) ≡ after_letter 2 (digits_length cs) → ExponentAt (c ∷ s ∷ cs)
signed_at c s cs e f make size = let r = run_of is_digit cs in by_front r.front r.rest r.whole r.size r.each r.stops
  where
    no_empty : (x : ℕ) (xs after : List ℕ) → starts is_digit cs ≡ false → c ∷ s ∷ cs ≡ x ∷ (xs ++ after) → exponent_test (x ∷ xs) ≡ true → ⊥
    no_empty x [] after stop g h = let k : (is_e x && false) ≡ true = h in absurd (no_and (is_e x) k)
      where
        no_and : (b : Bool) → (b && false) ≡ true → ⊥
        no_and true k = cc k
        no_and false k = cc k
    no_empty x (y ∷ ys) after stop g h =
        let same : s ≡ y = ap first_one (ap tail_of g) in
        let digits : is_digits ys ≡ true = sym (cond-true (is_sign y) (is_digits ys) (is_digits (y ∷ ys)) (ap is_sign (sym same) ∙ f)) ∙ and_right (is_e x) (power_test (y ∷ ys)) h in
        by_digits ys digits (ap tail_of (ap tail_of g))
      where
        by_digits : (zs : List ℕ) → is_digits zs ≡ true → cs ≡ zs ++ after → ⊥
        by_digits [] d t = cc d
        by_digits (z ∷ zs) d t = no_digits cs z zs after stop t d

    by_front : (front rest : List ℕ) → cs ≡ front ++ rest → digits_length cs ≡ length front → every is_digit front ≡ true → starts is_digit rest ≡ false → ExponentAt (c ∷ s ∷ cs)
    by_front [] rest g n h stop = none_at (c ∷ s ∷ cs) (size ∙ ap (after_letter 2) n) (λ x xs after. no_empty x xs after (ap (starts is_digit) g ∙ stop))
    by_front (d ∷ ds) rest g n h stop =
        let x = make (d ∷ ds) h in
        record {
          front = c ∷ s ∷ d ∷ ds;
          rest = rest;
          whole = ap (λ (t : List ℕ). c ∷ s ∷ t) g;
          size = size ∙ ap (after_letter 2) n ∙ omega arith;
          up = x.0;
          down = x.1;
          is = x.2;
          longest = λ y ys after t k. no_more is_digit (d ∷ ds) rest y ys after
              (sym (cond-true (is_sign s) (is_digits ((d ∷ ds) ++ y ∷ ys)) _ f) ∙ and_right (is_e c) (power_test (s ∷ (d ∷ ds) ++ y ∷ ys)) k) t stop;
        }

-- `e` without a sign.
unsigned_at : (c : ℕ) (cs : List ℕ) → is_e c ≡ true → starts is_sign cs ≡ false → exponent_length (c ∷ cs) ≡ after_letter 1 (digits_length cs) → ExponentAt (c ∷ cs)
unsigned_at c cs e f size = let r = run_of is_digit cs in by_front r.front r.rest r.whole r.size r.each r.stops
  where
    no_sign_first : (zs after : List ℕ) → power_test zs ≡ true → cs ≡ zs ++ after → is_digits zs ≡ true
    no_sign_first [] after h t = absurd (cc h)
    no_sign_first (z ∷ zs) after h t = sym (cond-false (is_sign z) (is_digits zs) (is_digits (z ∷ zs)) (sym (ap (starts is_sign) t) ∙ f)) ∙ h

    by_digits : (zs after : List ℕ) → starts is_digit cs ≡ false → is_digits zs ≡ true → cs ≡ zs ++ after → ⊥
    by_digits [] after stop d t = cc d
    by_digits (z ∷ zs) after stop d t = no_digits cs z zs after stop t d

    by_front : (front rest : List ℕ) → cs ≡ front ++ rest → digits_length cs ≡ length front → every is_digit front ≡ true → starts is_digit rest ≡ false → ExponentAt (c ∷ cs)
    by_front [] rest g n h stop = none_at (c ∷ cs) (size ∙ ap (after_letter 1) n)
        (λ x xs after t k. by_digits xs after (ap (starts is_digit) g ∙ stop) (no_sign_first xs after (and_right (is_e x) (power_test xs) k) (ap tail_of t)) (ap tail_of t))
    by_front (d ∷ ds) rest g n h stop = record {
      front = c ∷ d ∷ ds;
      rest = rest;
      whole = ap (λ (t : List ℕ). c ∷ t) g;
      size = size ∙ ap (after_letter 1) n ∙ omega arith;
      up = digits_value 10 (d ∷ ds);
      down = 0;
      is = unsigned c (d ∷ ds) refl e h;
      longest = λ y ys after t k. no_more is_digit (d ∷ ds) rest y ys after
          (sym (cond-false (is_sign d) (is_digits (ds ++ y ∷ ys)) (is_digits ((d ∷ ds) ++ y ∷ ys)) (sym (ap (starts is_sign) g) ∙ f)) ∙ and_right (is_e c) (power_test ((d ∷ ds) ++ y ∷ ys)) k) t stop;
    }

power_is : (c : ℕ) (cs : List ℕ) → is_e c ≡ true → exponent_length (c ∷ cs) ≡ power_length cs
power_is c cs e = cond-true (is_e c) (power_length cs) 0 e

sign_is : (s : ℕ) → is_sign s ≡ true → (s ≡ 43) ⊎ (s ≡ 45)
sign_is s h = elim (eqb_tells s 43) [
  | inl p ↦ inl (p.1)
  | inr p ↦ elim (eqb_tells s 45) [ inl q ↦ inr (q.1) | inr q ↦ absurd (cc (p.0, q.0, h)) ]
]

sign_digits : (c s : ℕ) → is_e c ≡ true → is_sign s ≡ true → (ds : List ℕ) → is_digits ds ≡ true → (u : ℕ) × (d : ℕ) × Exponent (c ∷ s ∷ ds) u d
sign_digits c s e h ds k = elim (sign_is s h) [
  | inl p ↦ (digits_value 10 ds, 0, with_plus c ds (ap (λ (x : ℕ). c ∷ x ∷ ds) p) e k)
  | inr p ↦ (0, digits_value 10 ds, with_minus c ds (ap (λ (x : ℕ). c ∷ x ∷ ds) p) e k)
]

pub exponent_at : (text : List ℕ) → ExponentAt text
exponent_at [] = none_at [] refl (λ x xs after e k. cc e)
exponent_at (c ∷ cs) = elim (cases_Bool (is_e c)) [
  | inl e ↦ by_power cs e
  | inr e ↦ none_at (c ∷ cs) (cond-false (is_e c) (power_length cs) 0 e)
      (λ x xs after t k. let g : true ≡ false = sym (and_left (is_e x) (power_test xs) k) ∙ ap is_e (sym (ap first_one t)) ∙ e in cc g)
]
  where
    by_power : (ts : List ℕ) → is_e c ≡ true → ExponentAt (c ∷ ts)
    by_power [] e = unsigned_at c [] e refl (power_is c [] e)
    by_power (s ∷ ts) e = elim (cases_Bool (is_sign s)) [
      | inl f ↦ signed_at c s ts e f (sign_digits c s e f) (power_is c (s ∷ ts) e ∙ cond-true (is_sign s) (after_letter 2 (digits_length ts)) _ f)
      | inr f ↦ unsigned_at c (s ∷ ts) e f (power_is c (s ∷ ts) e ∙ cond-false (is_sign s) _ (after_letter 1 (digits_length (s ∷ ts))) f)
    ]

-- ---- the mantissa at the start

-- A digit, or a point and a digit.
pub data NumberStart (text : List ℕ) : Type 0 where
  by_digit : starts is_digit text ≡ true → NumberStart text
  by_point : (c : ℕ) (cs : List ℕ) → text ≡ 46 ∷ c ∷ cs → is_digit c ≡ true → NumberStart text

pub record MantissaAt (text : List ℕ) : Type 0 where
  pub front : List ℕ
  pub rest : List ℕ
  pub whole : text ≡ front ++ rest
  pub size : mantissa_length text ≡ length front
  pub digits : List ℕ
  pub fraction : List ℕ
  pub is : Mantissa front digits fraction
  pub passes : (x : ℕ) (xs after : List ℕ) → rest ≡ x ∷ (xs ++ after) → number_test (front ++ x ∷ xs) ≡ true → exponent_test (x ∷ xs) ≡ true

mantissa_size : (text front rest : List ℕ) → text ≡ front ++ rest → digits_length text ≡ length front → mantissa_length text ≡ length front + fraction_length rest
mantissa_size text front rest e s =
    let d : drop (digits_length text) text ≡ rest = ap (λ (n : ℕ). drop n text) s ∙ ap (drop (length front)) e ∙ drop-append_seam front rest in
    ap (λ (n : ℕ). n + fraction_length (drop (digits_length text) text)) s ∙ ap (λ (t : List ℕ). length front + fraction_length t) d

no_start : (rest : List ℕ) → NumberStart rest → starts is_digit rest ≡ false → starts (λ (c : ℕ). nat_eq c 46) rest ≡ false → ⊥
no_start rest (by_digit h) s p = let k : true ≡ false = sym h ∙ s in cc k
no_start rest (by_point c cs e h) s p = let k : true ≡ false = sym (ap (starts (λ (c : ℕ). nat_eq c 46)) e) ∙ p in cc k

whole_digits : (front rest : List ℕ) → NumberStart (front ++ rest) → every is_digit front ≡ true → starts is_digit rest ≡ false → starts (λ (c : ℕ). nat_eq c 46) rest ≡ false → is_digits front ≡ true
whole_digits [] rest n h s p = absurd (no_start rest n s p)
whole_digits (c ∷ cs) rest n h s p = h

-- Without a point.
whole_at : (text front rest : List ℕ) → NumberStart text → text ≡ front ++ rest → digits_length text ≡ length front → every is_digit front ≡ true
    → starts is_digit rest ≡ false → starts (λ (c : ℕ). nat_eq c 46) rest ≡ false → fraction_length rest ≡ 0 → MantissaAt text
whole_at text front rest n e size h s p none = record {
  front = front;
  rest = rest;
  whole = e;
  size = mantissa_size text front rest e size ∙ (let k = none in omega arith);
  digits = front;
  fraction = [];
  is = whole_alone refl (whole_digits front rest (subst NumberStart e n) h s p);
  passes = λ x xs after t k.
      let no_digit : is_digit x ≡ false = sym (ap (starts is_digit) t) ∙ s in
      let no_point : nat_eq x 46 ≡ false = sym (ap (starts (λ (c : ℕ). nat_eq c 46)) t) ∙ p in
      sym (cond-false (nat_eq x 46) (fraction_test xs) (exponent_test (x ∷ xs)) no_point) ∙ sym (cond-false (is_digit x) (number_test xs) _ no_digit)
      ∙ sym (number_digits front (x ∷ xs) h) ∙ k;
}

point_mantissa : (front fs rest : List ℕ) → NumberStart (front ++ 46 ∷ (fs ++ rest)) → every is_digit front ≡ true → every is_digit fs ≡ true → starts is_digit rest ≡ false
    → Mantissa (front ++ 46 ∷ fs) front fs
point_mantissa (c ∷ cs) fs rest n h k s = with_point refl h k
point_mantissa [] (f ∷ fs) rest n h k s = point_first refl k
point_mantissa [] [] rest (by_digit g) h k s = absurd (cc g)
point_mantissa [] [] rest (by_point c cs e g) h k s =
    let a : starts is_digit rest ≡ true = ap (starts is_digit) (ap tail_of e) ∙ g in
    let b : true ≡ false = sym a ∙ s in absurd (cc b)

point_at : (text front cs : List ℕ) → NumberStart text → text ≡ front ++ 46 ∷ cs → digits_length text ≡ length front → every is_digit front ≡ true → MantissaAt text
point_at text front cs n e size h =
    let f = run_of is_digit cs in
    let whole : text ≡ front ++ 46 ∷ (f.front ++ f.rest) = e ∙ ap (λ (t : List ℕ). front ++ 46 ∷ t) f.whole in
    record {
      front = front ++ 46 ∷ f.front;
      rest = f.rest;
      whole = whole ∙ sym (append_assoc front (46 ∷ f.front) f.rest);
      size = mantissa_size text front (46 ∷ cs) e size ∙ (let k = f.size in let l = length-append front (46 ∷ f.front) in omega arith);
      digits = front;
      fraction = f.front;
      is = point_mantissa front f.front f.rest (subst NumberStart whole n) h f.each f.stops;
      passes = λ x xs after t k.
          let no_digit : is_digit x ≡ false = sym (ap (starts is_digit) t) ∙ f.stops in
          sym (cond-false (is_digit x) (fraction_test xs) (exponent_test (x ∷ xs)) no_digit) ∙ sym (fraction_digits f.front (x ∷ xs) f.each)
          ∙ sym (number_digits front (46 ∷ (f.front ++ x ∷ xs)) h) ∙ sym (ap number_test (append_assoc front (46 ∷ f.front) (x ∷ xs))) ∙ k;
    }

pub mantissa_at : (text : List ℕ) → NumberStart text → MantissaAt text
mantissa_at text n = let r = run_of is_digit text in by_rest r.front r.rest r.whole r.size r.each r.stops
  where
    by_rest : (front rest : List ℕ) → text ≡ front ++ rest → digits_length text ≡ length front → every is_digit front ≡ true → starts is_digit rest ≡ false → MantissaAt text
    by_rest front [] e size h s = whole_at text front [] n e size h s refl refl
    by_rest front (c ∷ cs) e size h s = elim (eqb_tells c 46) [
      | inl p ↦ point_at text front cs n (e ∙ ap (λ (x : ℕ). front ++ x ∷ cs) (p.1)) size h
      | inr p ↦ whole_at text front (c ∷ cs) n e size h s (p.0) (cond-false (nat_eq c 46) (1 + digits_length cs) 0 (p.0))
    ]

-- ---- the number

number_size : (text : List ℕ) (m : MantissaAt text) (x : ExponentAt m.rest) → number_length text ≡ length (m.front ++ x.front)
number_size text m x =
    let d : drop (mantissa_length text) text ≡ m.rest = ap (λ (n : ℕ). drop n text) m.size ∙ ap (drop (length m.front)) m.whole ∙ drop-append_seam m.front m.rest in
    ap (λ (n : ℕ). n + exponent_length (drop (mantissa_length text) text)) m.size ∙ ap (λ (t : List ℕ). length m.front + exponent_length t) d
    ∙ ap (λ (n : ℕ). length m.front + n) x.size ∙ sym (length-append m.front x.front)

-- If a longer text is a number, what follows the mantissa passes the test of an exponent.
goes_on : (text : List ℕ) (m : MantissaAt text) (front rest : List ℕ) (y : ℕ) (ys after : List ℕ) → m.rest ≡ front ++ rest → rest ≡ y ∷ (ys ++ after)
    → number_test (m.front ++ (front ++ y ∷ ys)) ≡ true → exponent_test (front ++ y ∷ ys) ≡ true
goes_on text m [] rest y ys after e t h = m.passes y ys after (e ∙ t) h
goes_on text m (x ∷ xs) rest y ys after e t h = m.passes x (xs ++ y ∷ ys) after (e ∙ ap (λ (z : List ℕ). x ∷ (xs ++ z)) t ∙ ap (λ (z : List ℕ). x ∷ z) (sym (append_assoc xs (y ∷ ys) after))) h

pub number_word : (text : List ℕ) → NumberStart text → IsWordAt text shape.Number (number_length text)
number_word text n =
    let m = mantissa_at text n in
    let x = exponent_at m.rest in
    let w = m.front ++ x.front in
    let whole : text ≡ w ++ x.rest = m.whole ∙ ap (λ (t : List ℕ). m.front ++ t) x.whole ∙ sym (append_assoc m.front x.front x.rest) in
    let r : Numeral = record { whole = m.digits; fraction = m.fraction; up = x.up; down = x.down } in
    let is : IsNumeral w r = record { mantissa = m.front; exponent = x.front; parts = refl; digits = m.is; power = x.is } in
    word_at text w x.rest shape.Number (number_length text) whole (number_size text m x)
    (longest_word text w x.rest whole (number_form r is)
    (λ y ys after e l.
    let shift = append_assoc m.front x.front (y ∷ ys) in
    let q = only_number l (ap tag shift ∙ mantissa_tag m.front (x.front ++ y ∷ ys) m.is) in
    x.longest y ys after e (goes_on text m x.front x.rest y ys after x.whole e (sym (ap number_test shift) ∙ number_passes (w ++ y ∷ ys) (q.0) (q.1)))))
    (r, is)

pub number_at : (text : List ℕ) (n : ℕ) → NumberStart text → n ≡ number_length text → IsWordAt text shape.Number n
number_at text n start s = subst (λ (m : ℕ). IsWordAt text shape.Number m) (sym s) (number_word text start)

pub digit_first : (text : List ℕ) (c : ℕ) (cs : List ℕ) → text ≡ c ∷ cs → is_digit c ≡ true → NumberStart text
digit_first text c cs e h = by_digit (ap (starts is_digit) e ∙ h)

pub point_first_digit : (text rest : List ℕ) (c : ℕ) (cs : List ℕ) → text ≡ 46 ∷ rest → rest ≡ c ∷ cs → is_digit c ≡ true → NumberStart text
point_first_digit text rest c cs e f h = by_point c cs (e ∙ ap (λ (t : List ℕ). 46 ∷ t) f) h
