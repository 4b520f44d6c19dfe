-- Runs that are recognized as whole numbers without computing their value.
use Rattle.std.proofs.Common.{◌≡◌, ◌∙◌, inl, inr, ℕ, zero, suc, ◌-◌, ◌*◌, ◌^◌, ◌<◌, ◌≤◌, List, [], ◌∷◌, ◌++◌, length, take, drop, get_or, Bool, true, false, Some, option_map, decimal, refl, sym, ap, subst, arith, append-nil, ne_eqb, true≢false, option_and_then, lt-ltb, le-leb, pos, neg_ℤ, ◌-ℤ◌, ◌+◌, length-take, take_all, to_z, of_z}
use Rattle.std.proofs.lemmas.Bool.{cases_Bool, and_right, and_parts, or_parts, eqb-true, false≢true}
use Rattle.std.proofs.lemmas.Fmt.{decimal-digits_value}
use Rattle.std.proofs.lemmas.Int.{ints, to_z-of_z, to_z_pos}
use Rattle.std.proofs.lemmas.List.{take_more}
use Rattle.std.proofs.lemmas.Int.Digits.{digits_value-lt}
use Rattle.std.proofs.lemmas.Str.Parse.{numerals_by_value, tells_digits}
use Rattle.std.proofs.Math.Nat.{pow-le-pow_right}
use Rattle.std.specs.Char.{is_ascii_digit, digit_value}
use Rattle.std.specs.Fmt.{sign_text, signed_decimal}
use Rattle.std.specs.Int.{w64}
use Rattle.std.specs.List.{prefix_len}
use Rattle.std.specs.Prelude.{◌&&◌, ◌||◌, ◌==◌, slice_index, FitsSigned}
use Rattle.std.specs.Str.{is_utf8}
use Rattle.std.specs.Str.Parse.{AllDigits, digits_value}
use Rattle.fast_float.specs.Text.{Parts, scan, digits_of, with_sign}
use Rattle.fast_float.proofs.Writing.{scan-text_of}
use Rattle.serde_json.specs.Find.{as_i64}
use Rattle.serde_json.specs.Read.{is_integer, number_from, number_of}
use Rattle.json.specs.Word.{head, after_number}
use Rattle.jv_number.specs.Number.{is_number, number_value, is_negative, parts_of, Writes}
use Rattle.jv_number.specs.laws.Numbers.{TestIsTheGrammar, ValueSolves}
use Rattle.jv_text.specs.Numbers.{run_text}
use Rattle.jv_text.specs.private.Runs.{is_minus, AreShort, IsShort}
use Rattle.jv_text.specs.private.PlainTokens.{IsPlainNumber}

-- ---- a run that begins with no digit and no minus

no_digits : (t : List ℕ) → is_ascii_digit (head t) ≡ false → prefix_len is_ascii_digit t ≡ 0
no_digits [] e = refl
no_digits (c ∷ cs) e = rw e refl

not_zero : (c : ℕ) → is_ascii_digit c ≡ false → (c == 48) ≡ false
not_zero c e = ne_eqb c 48 (λ z. true≢false (subst (λ x. is_ascii_digit x ≡ false) z e))

no_number : (t : List ℕ) → is_minus (head t) ≡ false → is_ascii_digit (head t) ≡ false → is_number t ≡ false
unfolding after_number
no_number t m d = rw (m, not_zero (head t) d, no_digits t d) refl

pub run_not_begun : (run : List ℕ) → (is_minus (head run) || is_ascii_digit (head run)) ≡ false → run_text run ≡ Some run
run_not_begun run e =
    let parts = or_parts (is_minus (head run)) (is_ascii_digit (head run)) e in
    let none : (is_utf8 run && is_number run) ≡ false = and_right (is_utf8 run) (is_number run) (no_number run parts.0 parts.1) in
    rw none refl

-- ---- a few digits, perhaps after a minus

abbrev digits : List ℕ → Parts
digits ds = record { whole = ds; point = false; fraction = []; exponent_negative = false; exponent = []; len = length (ds ++ []) }

scan_digits : (ds : List ℕ) → AllDigits 10 ds → scan ds ≡ digits ds
scan_digits ds h =
    ap scan (sym (append-nil ds)) ∙ scan-text_of (digits ds) (record { whole_digits = h; fraction_digits = tt; exponent_digits = tt; no_point = λ _. refl; no_exponent = λ _. refl; len_is = refl })

no_minus : (ds : List ℕ) → AllDigits 10 ds → 0 < length ds → get_or ds 0 0 ≡ 45 → ⊥
no_minus [] h some e = omega arith
no_minus (d ∷ ds) h some e = let digit : digit_value d < 10 = h.0 in let is : d ≡ 45 = e in grind arith

signed_parts : (negative : Bool) (ds : List ℕ) → AreShort ds → (is_negative (sign_text negative ++ ds) ≡ negative) × (parts_of (sign_text negative ++ ds) ≡ digits ds)
signed_parts true ds s = (refl, scan_digits ds s.digits)
signed_parts false ds s = let e : is_negative ds ≡ false = ne_eqb (get_or ds 0 0) 45 (no_minus ds s.digits s.some) in (e, rw e (scan_digits ds s.digits))

small : (ds : List ℕ) → AreShort ds → digits_value 10 ds < 1000000000000000000
small ds s = let ten : 0 < 10 = omega arith in let most : 10 ^ length ds ≤ 10 ^ 18 = pow-le-pow_right ten s.few in omega (arith, most, digits_value-lt 10 ds s.digits)

fits : (negative : Bool) (n : ℕ) → n < 1000000000000000000 → FitsSigned w64 (with_sign negative n)
fits false n h = grind (arith, ints)
fits true zero h = grind (arith, ints)
fits true (suc n) h = grind (arith, ints)

value_short : TestIsTheGrammar → ValueSolves → (negative : Bool) (ds : List ℕ) → AreShort ds → is_number (sign_text negative ++ ds) ≡ true → number_value (sign_text negative ++ ds) ≡ Some (with_sign negative (digits_value 10 ds))
value_short grammar solves negative ds s number =
    let n = digits_value 10 ds in
    let p = signed_parts negative ds s in
    let same : digits_value 10 (ds ++ []) ≡ n = ap (digits_value 10) (append-nil ds) in
    (solves (sign_text negative ++ ds) (with_sign negative n)).1 (record {
      grammar = (grammar _).0 number;
      size = n;
      exact = subst (λ q. Writes q n) (sym p.1) (ap (λ m. m * 10 ^ 0) (sym same));
      signed = ap (λ b. with_sign b n) (sym p.0);
      fits = fits negative n (small ds s);
    })

signed_is : (negative : Bool) (n : ℕ) (ds : List ℕ) → decimal n ≡ ds → (negative ≡ true → n ≡ 0 → ⊥) → signed_decimal (with_sign negative n) ≡ sign_text negative ++ ds
signed_is false n ds e h = e
signed_is true zero ds e h = absurd (h refl refl)
signed_is true (suc n) ds e h = ap (λ t. 45 ∷ t) e

short_run : TestIsTheGrammar → ValueSolves → (negative : Bool) (ds : List ℕ) → AreShort ds → (negative ≡ true → 0 < digits_value 10 ds) → run_text (sign_text negative ++ ds) ≡ Some (sign_text negative ++ ds)
short_run grammar solves negative ds s h =
    let n = digits_value 10 ds in
    let run = sign_text negative ++ ds in
    let below = small ds s in
    let printed : decimal n ≡ ds = decimal-digits_value (numerals_by_value _ tells_digits) ds s.digits s.some s.lead (omega arith) in
    let not_none : negative ≡ true → n ≡ 0 → ⊥ = λ m z. let some = h m in omega arith in
    elim (cases_Bool (is_utf8 run && is_number run)) [
      | inl held ↦ rw held (ap (option_map signed_decimal) (value_short grammar solves negative ds s (and_parts (is_utf8 run) (is_number run) held).1) ∙ ap Some (signed_is negative n ds printed not_none))
      | inr failed ↦ rw failed refl
    ]

-- ---- the number that is read

from_true : (p : Parts) (n : ℕ) → is_integer p ≡ true → digits_of p ≡ n → 0 < n → n ≤ 2 ^ 63 → option_and_then as_i64 (number_from true p) ≡ Some (with_sign true n)
from_true p n i e h k = rw (i, e, lt-ltb 0 n h, le-leb n (2 ^ 63) k) refl

from_false : (p : Parts) (n : ℕ) → is_integer p ≡ true → digits_of p ≡ n → n < 2 ^ 63 → option_and_then as_i64 (number_from false p) ≡ Some (with_sign false n)
from_false p n i e h = let k : n < 2 ^ 64 = omega arith in rw (i, e, lt-ltb n (2 ^ 64) k) (rw (lt-ltb n (2 ^ 63) h) refl)

from_digits : (negative : Bool) (ds : List ℕ) → AreShort ds → (negative ≡ true → 0 < digits_value 10 ds) → option_and_then as_i64 (number_from negative (digits ds)) ≡ Some (with_sign negative (digits_value 10 ds))
from_digits true ds s h =
    let below = small ds s in
    from_true (digits ds) (digits_value 10 ds) (rw (lt-ltb 0 (length ds) s.some) refl) (ap (digits_value 10) (append-nil ds)) (h refl) (omega arith)
from_digits false ds s h =
    let below = small ds s in
    from_false (digits ds) (digits_value 10 ds) (rw (lt-ltb 0 (length ds) s.some) refl) (ap (digits_value 10) (append-nil ds)) (omega arith)

read_digits : (negative : Bool) (ds : List ℕ) → AreShort ds → number_of (sign_text negative ++ ds) ≡ number_from negative (digits ds)
unfolding number_of
read_digits true ds s = ap (number_from true) (scan_digits ds s.digits)
read_digits false ds s = let e : (get_or ds 0 0 == 45) ≡ false = ne_eqb (get_or ds 0 0) 45 (no_minus ds s.digits s.some) in rw e (ap (number_from false) (scan_digits ds s.digits))

pub plain_number : TestIsTheGrammar → ValueSolves → (negative : Bool) (ds : List ℕ) → AreShort ds → (negative ≡ true → 0 < digits_value 10 ds) → IsPlainNumber (sign_text negative ++ ds) (with_sign negative (digits_value 10 ds))
plain_number grammar solves negative ds s h =
    record { plain = short_run grammar solves negative ds s h; value = ap (option_and_then as_i64) (read_digits negative ds s) ∙ from_digits negative ds s h }

pub below_small : (ds : List ℕ) → AreShort ds → digits_value 10 ds < 2 ^ 63
below_small ds s = let below = small ds s in omega arith

signed_pos : (ds : List ℕ) (n : ℕ) → IsShort ds n → pos (digits_value 10 ds) ≡ to_z w64 n
signed_pos ds n s = ap pos (sym s.value) ∙ sym (to_z_pos w64 n (subst (λ m. m < 2 ^ 63) (sym s.value) (below_small ds s.short)))

pub plain_positive : TestIsTheGrammar → ValueSolves → (text ds : List ℕ) (n : ℕ) → ds ≡ text → IsShort ds n → IsPlainNumber text (to_z w64 n)
plain_positive grammar solves text ds n same s =
    subst (λ t. IsPlainNumber t (to_z w64 n)) same (subst (IsPlainNumber ds) (signed_pos ds n s) (plain_number grammar solves false ds s.short (λ e. absurd (false≢true e))))

negated : (n : ℕ) → neg_ℤ (pos n) ≡ pos 0 -ℤ pos n
negated zero = grind (arith, ints)
negated (suc n) = grind (arith, ints)

pub plain_negative : TestIsTheGrammar → ValueSolves → (text ds : List ℕ) (n : ℕ) → (slice_index text 0 == 45) ≡ true → 0 < length text → take (length text - 1) (drop 1 text) ≡ ds → IsShort ds n → 0 < n
    → IsPlainNumber text (to_z w64 (of_z w64 (pos 0 -ℤ to_z w64 n)))
plain_negative grammar solves [] ds n e some same s h = absurd (omega arith)
plain_negative grammar solves (x ∷ xs) ds n e some same s h =
    let m = digits_value 10 ds in
    let is : 45 ≡ x = sym (eqb-true x 45 e) in
    let after : xs ≡ ds = sym (take_all (length (x ∷ xs) - 1) xs (omega arith)) ∙ same in
    let z = sym (to_z-of_z w64 (with_sign true m) (fits true m (small ds s.short))) ∙ ap (λ k. to_z w64 (of_z w64 k)) (negated m ∙ ap (λ k. pos 0 -ℤ k) (signed_pos ds n s)) in
    let read = plain_number grammar solves true ds s.short (λ t. subst (λ k. 0 < k) s.value h) in
    subst (λ t. IsPlainNumber t (to_z w64 (of_z w64 (pos 0 -ℤ to_z w64 n)))) (ap (λ l. 45 ∷ l) (sym after) ∙ ap (λ y. y ∷ xs) is) (subst (IsPlainNumber (45 ∷ ds)) z read)

-- ---- the value of digits, one after another

pub below_digits : (ds : List ℕ) (i : ℕ) → length ds ≤ 18 → i < length ds → AllDigits 10 (take i ds) → digits_value 10 (take i ds) < 100000000000000000
below_digits ds i few h all =
    let ten : 0 < 10 = omega arith in
    let less : length (take i ds) ≤ 17 = omega (arith, length-take i ds) in
    let most : 10 ^ length (take i ds) ≤ 10 ^ 17 = pow-le-pow_right ten less in
    omega (arith, most, digits_value-lt 10 (take i ds) all)

all_push : (xs : List ℕ) (d : ℕ) → AllDigits 10 xs → digit_value d < 10 → AllDigits 10 (xs ++ d ∷ [])
all_push [] d h k = (k, tt)
all_push (x ∷ xs) d h k = (h.0, all_push xs d h.1 k)

pub digits_more : (ds : List ℕ) (i : ℕ) → i < length ds → AllDigits 10 (take i ds) → digit_value (get_or ds i 0) < 10 → AllDigits 10 (take (i + 1) ds)
digits_more ds i h all d = subst (AllDigits 10) (sym (take_more ds i 0 h)) (all_push (take i ds) (get_or ds i 0) all d)
