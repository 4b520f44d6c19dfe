-- The value of a number, by the parts that `fast_float` reads.
use Rattle.std.proofs.Common.{◌≡◌, ◌∙◌, ℕ, ◌+◌, ◌-◌, ◌*◌, ◌^◌, ◌<◌, ◌≤◌, List, [], ◌∷◌, ◌++◌, length, take, drop, slice_range, get_or, Bool, true, false, ◌&&◌, ◌||◌, cond, eqb, refl, sym, ap, subst, arith, length-append, append_assoc}
use Rattle.std.proofs.Math.Seq.{take-append_seam, drop-append_seam}
use Rattle.std.proofs.lemmas.Bool.{and_from, or_from, cond-true, cond-false}
use Rattle.std.proofs.lemmas.List.{append-nil, get_or-append-add}
use Rattle.std.specs.List.{prefix_len}
use Rattle.std.specs.Str.Parse.{digits_value}
use Rattle.std.specs.Char.{is_ascii_digit}
use Rattle.std.specs.Float.Numeral.{Parts, digits_end, exponent_start, has_exponent, scan_numeral}
use Rattle.fast_float.specs.Text.{IsWhole, whole_of, digits_of, tens_up, tens_down}
use Rattle.jq_tree.specs.Words.{every, is_digit, is_digits, is_e, Numeral, Mantissa, whole_alone, with_point, point_first, Exponent, no_exponent, unsigned, with_plus, with_minus, IsNumeral, IsValue}
use Rattle.jq_tree.proofs.shared.Fronts.{and_left, digits_each}
use Rattle.jq_tree.proofs.shared.OneNumber.{other_than, starts_e, exponent_starts}
use Rattle.jv_number.specs.laws.Numbers.{ShiftedDigitsSolve}
use Rattle.jq_lexer.proofs.NumberWords.{no_digit_e}
use Rattle.jq_lexer.proofs.Runs.{starts, run_length}

-- ---- reading at a known position

cut : (bs front middle rest : List ℕ) (i j : ℕ) → bs ≡ front ++ (middle ++ rest) → i ≡ length front → j ≡ length front + length middle → slice_range bs i j ≡ middle
cut bs front middle rest i j e s t =
    let n : j - i ≡ length middle = omega arith in
    let d : drop i bs ≡ middle ++ rest = ap (λ (k : ℕ). drop k bs) s ∙ ap (drop (length front)) e ∙ drop-append_seam front (middle ++ rest) in
    ap (λ (k : ℕ). take k (drop i bs)) n ∙ ap (take (length middle)) d ∙ take-append_seam middle rest

peek : (bs front rest : List ℕ) (i k : ℕ) → bs ≡ front ++ rest → i ≡ length front + k → get_or bs i 0 ≡ get_or rest k 0
peek bs front rest i k e s = ap (λ (t : List ℕ). get_or t i 0) e ∙ ap (λ (n : ℕ). get_or (front ++ rest) n 0) s ∙ get_or-append-add front rest k 0

ends : (bs front ds rest : List ℕ) (i : ℕ) → bs ≡ front ++ (ds ++ rest) → i ≡ length front → every is_digit ds ≡ true → starts is_digit rest ≡ false → digits_end bs i ≡ length front + length ds
ends bs front ds rest i e s h stop =
    let d : drop i bs ≡ ds ++ rest = ap (λ (k : ℕ). drop k bs) s ∙ ap (drop (length front)) e ∙ drop-append_seam front (ds ++ rest) in
    let n = ap (prefix_len is_digit) d ∙ run_length is_digit ds rest h stop in
    omega arith

no_digit_after : (x : List ℕ) → starts_e x ≡ true → starts is_digit x ≡ false
no_digit_after [] h = refl
no_digit_after (c ∷ cs) h = no_digit_e c h

first_no_point : (x : List ℕ) → starts_e x ≡ true → eqb (get_or x 0 0) 46 ≡ false
first_no_point [] h = refl
first_no_point (c ∷ cs) h = other_than is_e c 46 h refl

-- ---- the mantissa

abbrev point_from : List ℕ → ℕ → Bool
point_from bs a = eqb (get_or bs a 0) 46

abbrev end_from : List ℕ → ℕ → ℕ
end_from bs a = cond (point_from bs a) (digits_end bs (a + 1)) a

abbrev fraction_from : List ℕ → ℕ → List ℕ
fraction_from bs a = cond (point_from bs a) (slice_range bs (a + 1) (end_from bs a)) []

record MantissaRead (bs m ds fs : List ℕ) : Type 0 where
  digits : slice_range bs 0 (digits_end bs 0) ≡ ds
  fraction : fraction_from bs (digits_end bs 0) ≡ fs
  end : end_from bs (digits_end bs 0) ≡ length m

read_whole : (bs ds x : List ℕ) → bs ≡ ds ++ x → every is_digit ds ≡ true → starts_e x ≡ true → MantissaRead bs ds ds []
read_whole bs ds x e h s =
    let a : digits_end bs 0 ≡ length ds = ends bs [] ds x 0 e refl h (no_digit_after x s) ∙ omega arith in
    let p : point_from bs (digits_end bs 0) ≡ false = ap (λ (c : ℕ). eqb c 46) (peek bs ds x (digits_end bs 0) 0 e (omega arith)) ∙ first_no_point x s in
    record {
      digits = cut bs [] ds x 0 (digits_end bs 0) e refl (omega arith);
      fraction = cond-false (point_from bs (digits_end bs 0)) (slice_range bs (digits_end bs 0 + 1) (end_from bs (digits_end bs 0))) [] p;
      end = cond-false (point_from bs (digits_end bs 0)) (digits_end bs (digits_end bs 0 + 1)) (digits_end bs 0) p ∙ a;
    }

read_point : (bs ds fs x : List ℕ) → bs ≡ (ds ++ 46 ∷ fs) ++ x → every is_digit ds ≡ true → every is_digit fs ≡ true → starts_e x ≡ true → MantissaRead bs (ds ++ 46 ∷ fs) ds fs
read_point bs ds fs x e h k s =
    let f : bs ≡ ds ++ (46 ∷ (fs ++ x)) = e ∙ append_assoc ds (46 ∷ fs) x in
    let g : bs ≡ (ds ++ 46 ∷ []) ++ (fs ++ x) = f ∙ sym (append_assoc ds (46 ∷ []) (fs ++ x)) in
    let n = length-append ds (46 ∷ []) in
    let m = length-append ds (46 ∷ fs) in
    let a : digits_end bs 0 ≡ length ds = ends bs [] ds (46 ∷ (fs ++ x)) 0 f refl h refl ∙ omega arith in
    let p : point_from bs (digits_end bs 0) ≡ true = ap (λ (c : ℕ). eqb c 46) (peek bs ds (46 ∷ (fs ++ x)) (digits_end bs 0) 0 f (omega arith)) in
    let b : digits_end bs (digits_end bs 0 + 1) ≡ length (ds ++ 46 ∷ []) + length fs = ends bs (ds ++ 46 ∷ []) fs x (digits_end bs 0 + 1) g (omega arith) k (no_digit_after x s) in
    let end : end_from bs (digits_end bs 0) ≡ length (ds ++ 46 ∷ []) + length fs = cond-true (point_from bs (digits_end bs 0)) (digits_end bs (digits_end bs 0 + 1)) (digits_end bs 0) p ∙ b in
    record {
      digits = cut bs [] ds (46 ∷ (fs ++ x)) 0 (digits_end bs 0) f refl (omega arith);
      fraction = cond-true (point_from bs (digits_end bs 0)) (slice_range bs (digits_end bs 0 + 1) (end_from bs (digits_end bs 0))) [] p
          ∙ cut bs (ds ++ 46 ∷ []) fs x (digits_end bs 0 + 1) (end_from bs (digits_end bs 0)) g (omega arith) end;
      end = end ∙ omega arith;
    }

read_mantissa : (bs m x : List ℕ) {ds fs : List ℕ} → bs ≡ m ++ x → starts_e x ≡ true → Mantissa m ds fs → MantissaRead bs m ds fs
read_mantissa bs m x b s (whole_alone {ds} e h) =
    subst (λ (t : List ℕ). MantissaRead bs t ds []) (sym e) (read_whole bs ds x (b ∙ ap (λ (t : List ℕ). t ++ x) e) (digits_each ds h) s)
read_mantissa bs m x b s (with_point {ds} {fs} e h k) =
    subst (λ (t : List ℕ). MantissaRead bs t ds fs) (sym e) (read_point bs ds fs x (b ∙ ap (λ (t : List ℕ). t ++ x) e) (digits_each ds h) k s)
read_mantissa bs m x b s (point_first {fs} e h) =
    subst (λ (t : List ℕ). MantissaRead bs t [] fs) (sym e) (read_point bs [] fs x (b ∙ ap (λ (t : List ℕ). t ++ x) e) refl (digits_each fs h) s)

-- ---- the exponent

abbrev exponent_from : List ℕ → ℕ → List ℕ
exponent_from bs b = cond (has_exponent bs b) (slice_range bs (exponent_start bs b) (digits_end bs (exponent_start bs b))) []

abbrev negative_from : List ℕ → ℕ → Bool
negative_from bs b = has_exponent bs b && eqb (get_or bs (b + 1) 0) 45

record ExponentRead (bs : List ℕ) (b up down : ℕ) : Type 0 where
  ups : cond (negative_from bs b) 0 (digits_value 10 (exponent_from bs b)) ≡ up
  downs : cond (negative_from bs b) (digits_value 10 (exponent_from bs b)) 0 ≡ down

read_none : (bs m : List ℕ) (b : ℕ) → bs ≡ m ++ [] → b ≡ length m → ExponentRead bs b 0 0
read_none bs m b e s =
    let c : get_or bs b 0 ≡ 0 = peek bs m [] b 0 e (omega arith) in
    let none : has_exponent bs b ≡ false = ap (λ (d : ℕ). (eqb d 101 || eqb d 69) && is_ascii_digit (get_or bs (exponent_start bs b) 0)) c in
    let up : negative_from bs b ≡ false = ap (λ (d : Bool). d && eqb (get_or bs (b + 1) 0) 45) none in
    record {
      ups = cond-false (negative_from bs b) 0 (digits_value 10 (exponent_from bs b)) up ∙ ap (digits_value 10) (cond-false (has_exponent bs b) _ [] none);
      downs = cond-false (negative_from bs b) (digits_value 10 (exponent_from bs b)) 0 up;
    }

first_digit : (ds : List ℕ) → is_digits ds ≡ true → is_digit (get_or ds 0 0) ≡ true
first_digit [] h = absurd (cc h)
first_digit (d ∷ ds) h = and_left (is_digit d) (every is_digit ds) h

-- The exponent's digits begin after these characters.
read_digits : (bs m front ds : List ℕ) (b c : ℕ) → bs ≡ m ++ c ∷ (front ++ ds) → b ≡ length m → is_e c ≡ true → is_digits ds ≡ true → exponent_start bs b ≡ b + 1 + length front
    → (has_exponent bs b ≡ true) × (exponent_from bs b ≡ ds)
read_digits bs m front ds b c e s h k start =
    let g : bs ≡ (m ++ c ∷ front) ++ ds = e ∙ sym (append_assoc m (c ∷ front) ds) in
    let size = length-append m (c ∷ front) in
    let i : exponent_start bs b ≡ length (m ++ c ∷ front) = start ∙ omega arith in
    let letter : get_or bs b 0 ≡ c = peek bs m (c ∷ (front ++ ds)) b 0 e (omega arith) in
    let digit : get_or bs (exponent_start bs b) 0 ≡ get_or ds 0 0 = peek bs (m ++ c ∷ front) ds (exponent_start bs b) 0 g (i ∙ omega arith) in
    let has : has_exponent bs b ≡ true = and_from (is_e (get_or bs b 0)) (is_ascii_digit (get_or bs (exponent_start bs b) 0)) (ap is_e letter ∙ h) (ap is_digit digit ∙ first_digit ds k) in
    let all : bs ≡ (m ++ c ∷ front) ++ (ds ++ []) = g ∙ ap (λ (t : List ℕ). (m ++ c ∷ front) ++ t) (sym (append-nil ds)) in
    (has, cond-true (has_exponent bs b) _ [] has ∙ cut bs (m ++ c ∷ front) ds [] (exponent_start bs b) (digits_end bs (exponent_start bs b)) all i (ends bs (m ++ c ∷ front) ds [] (exponent_start bs b) all i (digits_each ds k) refl))

negative_is : (bs : List ℕ) (b d : ℕ) → has_exponent bs b ≡ true → get_or bs (b + 1) 0 ≡ d → negative_from bs b ≡ eqb d 45
negative_is bs b d h e = ap (λ (x : Bool). x && eqb (get_or bs (b + 1) 0) 45) h ∙ ap (λ (x : ℕ). eqb x 45) e

read_up : (bs ds : List ℕ) (b : ℕ) → negative_from bs b ≡ false → exponent_from bs b ≡ ds → ExponentRead bs b (digits_value 10 ds) 0
read_up bs ds b up e = record {
  ups = cond-false (negative_from bs b) 0 (digits_value 10 (exponent_from bs b)) up ∙ ap (digits_value 10) e;
  downs = cond-false (negative_from bs b) (digits_value 10 (exponent_from bs b)) 0 up;
}

read_down : (bs ds : List ℕ) (b : ℕ) → negative_from bs b ≡ true → exponent_from bs b ≡ ds → ExponentRead bs b 0 (digits_value 10 ds)
read_down bs ds b down e = record {
  ups = cond-true (negative_from bs b) 0 (digits_value 10 (exponent_from bs b)) down;
  downs = cond-true (negative_from bs b) (digits_value 10 (exponent_from bs b)) 0 down ∙ ap (digits_value 10) e;
}

-- Whether the character is a sign.
abbrev sign_there : ℕ → Bool
sign_there c = eqb c 45 || eqb c 43

start_without : (bs : List ℕ) (b d : ℕ) → get_or bs (b + 1) 0 ≡ d → sign_there d ≡ false → exponent_start bs b ≡ b + 1
start_without bs b d e h = cond-false (sign_there (get_or bs (b + 1) 0)) (b + 2) (b + 1) (ap sign_there e ∙ h)

start_after : (bs : List ℕ) (b d : ℕ) → get_or bs (b + 1) 0 ≡ d → sign_there d ≡ true → exponent_start bs b ≡ b + 2
start_after bs b d e h = cond-true (sign_there (get_or bs (b + 1) 0)) (b + 2) (b + 1) (ap sign_there e ∙ h)

read_unsigned : (bs m ds : List ℕ) (b c : ℕ) → bs ≡ m ++ c ∷ ds → b ≡ length m → is_e c ≡ true → is_digits ds ≡ true → ExponentRead bs b (digits_value 10 ds) 0
read_unsigned bs m ds b c e s h k =
    let digit = first_digit ds k in
    let following : get_or bs (b + 1) 0 ≡ get_or ds 0 0 = peek bs m (c ∷ ds) (b + 1) 1 e (omega arith) in
    let minus : eqb (get_or ds 0 0) 45 ≡ false = other_than is_digit (get_or ds 0 0) 45 digit refl in
    let plus : eqb (get_or ds 0 0) 43 ≡ false = other_than is_digit (get_or ds 0 0) 43 digit refl in
    let start = start_without bs b (get_or ds 0 0) following (or_from (eqb (get_or ds 0 0) 45) (eqb (get_or ds 0 0) 43) minus plus) in
    let r = read_digits bs m [] ds b c e s h k (start ∙ omega arith) in
    read_up bs ds b (negative_is bs b (get_or ds 0 0) (r.0) following ∙ minus) (r.1)

read_signed : (bs m ds : List ℕ) (b c d : ℕ) → bs ≡ m ++ c ∷ d ∷ ds → b ≡ length m → is_e c ≡ true → is_digits ds ≡ true → sign_there d ≡ true
    → (negative_from bs b ≡ eqb d 45) × (exponent_from bs b ≡ ds)
read_signed bs m ds b c d e s h k sign =
    let following : get_or bs (b + 1) 0 ≡ d = peek bs m (c ∷ d ∷ ds) (b + 1) 1 e (omega arith) in
    let start = start_after bs b d following sign in
    let r = read_digits bs m (d ∷ []) ds b c e s h k (start ∙ omega arith) in
    (negative_is bs b d (r.0) following, r.1)

read_exponent : (bs m x : List ℕ) (b : ℕ) {up down : ℕ} → bs ≡ m ++ x → b ≡ length m → Exponent x up down → ExponentRead bs b up down
read_exponent bs m x b e s (no_exponent f) = read_none bs m b (e ∙ ap (λ (t : List ℕ). m ++ t) f) s
read_exponent bs m x b e s (unsigned c ds f g h) = read_unsigned bs m ds b c (e ∙ ap (λ (t : List ℕ). m ++ t) f) s g h
read_exponent bs m x b e s (with_plus c ds f g h) = let r = read_signed bs m ds b c 43 (e ∙ ap (λ (t : List ℕ). m ++ t) f) s g h refl in read_up bs ds b (r.0) (r.1)
read_exponent bs m x b e s (with_minus c ds f g h) = let r = read_signed bs m ds b c 45 (e ∙ ap (λ (t : List ℕ). m ++ t) f) s g h refl in read_down bs ds b (r.0) (r.1)

-- ---- the whole number

record NumeralRead (text : List ℕ) (r : Numeral) : Type 0 where
  digits : digits_of (scan_numeral text) ≡ digits_value 10 (r.whole ++ r.fraction)
  ups : tens_up (scan_numeral text) ≡ r.up
  downs : tens_down (scan_numeral text) ≡ length r.fraction + r.down

read_numeral : (text : List ℕ) (r : Numeral) → IsNumeral text r → NumeralRead text r
unfolding scan_numeral
read_numeral text r n =
    let m = read_mantissa text n.mantissa n.exponent n.parts (exponent_starts n.power) n.digits in
    let b = end_from text (digits_end text 0) in
    let x = read_exponent text n.mantissa n.exponent b n.parts m.end n.power in
    record {
      digits = ap (λ (t : List ℕ). digits_value 10 (t ++ fraction_from text (digits_end text 0))) m.digits ∙ ap (λ (t : List ℕ). digits_value 10 (r.whole ++ t)) m.fraction;
      ups = x.ups;
      downs = ap (λ (t : List ℕ). length t + cond (negative_from text b) (digits_value 10 (exponent_from text b)) 0) m.fraction ∙ ap (λ (k : ℕ). length r.fraction + k) x.downs;
    }

value_is : ShiftedDigitsSolve → (text : List ℕ) (r : Numeral) → IsNumeral text r → IsWhole (scan_numeral text) → whole_of (scan_numeral text) < 2 ^ 63 → IsValue r (whole_of (scan_numeral text))
value_is solves text r n e h =
    let p = scan_numeral text in
    let x = whole_of p in
    let q = read_numeral text r n in
    let w : x * 10 ^ tens_down p ≡ digits_of p * 10 ^ tens_up p = (solves text x).1 (e, refl) in
    let d : r.down + length r.fraction ≡ tens_down p = (let k = q.downs in omega arith) in
    record {
      exact = ap (λ (k : ℕ). x * 10 ^ k) d ∙ w ∙ ap (λ (k : ℕ). k * 10 ^ tens_up p) q.digits ∙ ap (λ (k : ℕ). digits_value 10 (r.whole ++ r.fraction) * 10 ^ k) q.ups;
      fits = h;
    }

is_value : ShiftedDigitsSolve → (text : List ℕ) (r : Numeral) (x : ℕ) → IsNumeral text r → IsValue r x → IsWhole (scan_numeral text) × (x ≡ whole_of (scan_numeral text))
is_value solves text r x n v =
    let p = scan_numeral text in
    let q = read_numeral text r n in
    let d : tens_down p ≡ r.down + length r.fraction = (let k = q.downs in omega arith) in
    let w : x * 10 ^ tens_down p ≡ digits_of p * 10 ^ tens_up p =
    ap (λ (k : ℕ). x * 10 ^ k) d ∙ v.exact ∙ ap (λ (k : ℕ). k * 10 ^ r.up) (sym q.digits) ∙ ap (λ (k : ℕ). digits_of p * 10 ^ k) (sym q.ups) in
    (solves text x).0 w

-- ---- the same for scanned parts

pub no_value_at : ShiftedDigitsSolve → (text : List ℕ) (p : Parts) → p ≡ scan_numeral text → ¬ (IsWhole p × (whole_of p < 2 ^ 64)) → (r : Numeral) → IsNumeral text r → (n : ℕ) → ¬ IsValue r n
no_value_at solves text p e none r i n v =
    let k = is_value solves text r n i v in
    let small : whole_of (scan_numeral text) < 2 ^ 64 = fits_wide n (whole_of (scan_numeral text)) v.fits (k.1) in
    none (subst (λ (q : Parts). IsWhole q × (whole_of q < 2 ^ 64)) (sym e) (k.0, small))
  where
    fits_wide : (n m : ℕ) → n < 2 ^ 63 → n ≡ m → m < 2 ^ 64
    fits_wide n m h e = omega arith

pub too_large : ShiftedDigitsSolve → (text : List ℕ) (p : Parts) → p ≡ scan_numeral text → (x : ℕ) → x ≡ whole_of p → 2 ^ 63 ≤ x → (r : Numeral) → IsNumeral text r → (n : ℕ) → ¬ IsValue r n
too_large solves text p e x f h r i n v = beyond n x h v.fits ((is_value solves text r n i v).1 ∙ ap whole_of (sym e) ∙ sym f)
  where
    beyond : (n x : ℕ) → 2 ^ 63 ≤ x → n < 2 ^ 63 → n ≡ x → ⊥
    beyond n x h k e = absurd (omega arith)

pub value_at : ShiftedDigitsSolve → (text : List ℕ) (p : Parts) → p ≡ scan_numeral text → (x : ℕ) → (IsWhole p × (whole_of p < 2 ^ 64)) × (x ≡ whole_of p) → x < 2 ^ 63 → (r : Numeral) → IsNumeral text r → IsValue r x
value_at solves text p e x h small r i =
    let same : x ≡ whole_of (scan_numeral text) = h.1 ∙ ap whole_of e in
    subst (IsValue r) (sym same) (value_is solves text r i (subst IsWhole e (h.0.0)) (subst (λ (n : ℕ). n < 2 ^ 63) same small))
