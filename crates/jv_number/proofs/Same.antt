-- The value by shifting digits is the value by the equation.
use Rattle.std.proofs.Common.{◌≡◌, inl, inr, ℕ, zero, suc, ◌+◌, ◌-◌, ◌^◌, List, ◌++◌, length, drop, Bool, true, false, cond, Option, Some, None, refl, sym, ap, ◌∙◌, subst, arith, length-append}
use Rattle.std.proofs.lemmas.Bool.{and_parts, eqb-true, eq-eqb, leb-true, le-leb, cases_lt}
use Rattle.std.proofs.lemmas.Int.{ints}
use Rattle.std.specs.Prelude.{ℤ, FitsSigned, ◌&&◌}
use Rattle.std.specs.Int.{w64}
use Rattle.std.specs.Str.Parse.{digits_value, AllDigits}
use Rattle.fast_float.proofs.Reading.{scan_numeral-AllDigits}
use Rattle.fast_float.specs.Text.{Parts, scan, tens_up, tens_down, point_at, IsWhole, whole_of, with_sign}
use Rattle.jv_number.specs.Number.{is_negative, parts_of, Writes, IsValue, is_number, is_whole, fits, value_of, number_value}
use Rattle.json.specs.Print.{IsNumber}
use Rattle.jv_number.proofs.Shifts.{Moved, shifted_writes, writes_shifted, all_digits-append}
use Rattle.jv_number.proofs.Grammar.{IsNumber-from_test, is_number-from}

-- ---- the range

fits_signed : (negative : Bool) (n : ℕ) → fits negative n ≡ true → FitsSigned w64 (with_sign negative n)
fits_signed false n e = let h = leb-true n (2 ^ 63 - 1) e in grind (arith, ints)
fits_signed true zero e = grind (arith, ints)
fits_signed true (suc n) e = let h = leb-true (suc n) (2 ^ 63) e in grind (arith, ints)

signed_fits : (negative : Bool) (n : ℕ) → FitsSigned w64 (with_sign negative n) → fits negative n ≡ true
signed_fits false n f = le-leb n (2 ^ 63 - 1) (omega (arith, ints))
signed_fits true zero f = le-leb 0 (2 ^ 63) (omega arith)
signed_fits true (suc n) f = le-leb (suc n) (2 ^ 63) (omega (arith, ints))

-- ---- the point

moved_at : (negative : Bool) (w f e : ℕ) → Moved (cond negative (w - e) (w + e)) (w + f) (f + cond negative e 0) (cond negative 0 e)
moved_at false w f e = record { moved = inl (omega arith) }
moved_at true w f e = elim (cases_lt w e) [ inl lt ↦ record { moved = inr (omega arith, refl, omega arith) } | inr le ↦ record { moved = inl (omega arith) } ]

moved : (p : Parts) → Moved (point_at p) (length (p.whole ++ p.fraction)) (tens_down p) (tens_up p)
moved p = rw (length-append p.whole p.fraction) (moved_at p.exponent_negative (length p.whole) (length p.fraction) (digits_value 10 p.exponent))

all_digits : (bs : List ℕ) → AllDigits 10 ((scan bs).whole ++ (scan bs).fraction)
all_digits bs = let d = scan_numeral-AllDigits bs in all_digits-append (scan bs).whole (scan bs).fraction d.0 d.1

-- the number by shifting is the number of the text, and conversely
pub whole_writes : (bs : List ℕ) (n : ℕ) → IsWhole (scan bs) × (n ≡ whole_of (scan bs)) → Writes (scan bs) n
whole_writes bs n w =
    let p = scan bs in
    shifted_writes (p.whole ++ p.fraction) (point_at p) (tens_down p) (tens_up p) n (all_digits bs) (moved p) (record { after = w.0; before = w.1 })

pub writes_whole : (bs : List ℕ) (n : ℕ) → Writes (scan bs) n → IsWhole (scan bs) × (n ≡ whole_of (scan bs))
writes_whole bs n w =
    let p = scan bs in
    let s = writes_shifted (p.whole ++ p.fraction) (point_at p) (tens_down p) (tens_up p) n (all_digits bs) (moved p) w in
    (s.after, s.before)

whole-true : (p : Parts) → is_whole p ≡ true → IsWhole p
whole-true p e = eqb-true (digits_value 10 (drop (point_at p) (p.whole ++ p.fraction))) 0 e

whole-from : (p : Parts) → IsWhole p → is_whole p ≡ true
whole-from p w = eq-eqb (digits_value 10 (drop (point_at p) (p.whole ++ p.fraction))) 0 w

-- ---- the value

chosen : (b : Bool) (x z : ℤ) → cond b (Some x) None ≡ Some z → (b ≡ true) × (z ≡ x)
chosen true x z e = let f : z ≡ x = cc in (refl, f)
chosen false x z e = cc

guarded : (b : Bool) (o : Option ℤ) (z : ℤ) → cond b o None ≡ Some z → (b ≡ true) × (o ≡ Some z)
guarded true o z e = (refl, e)
guarded false o z e = cc

pub value_exact : (text : List ℕ) (z : ℤ) → number_value text ≡ Some z → IsValue text z
unfolding number_value
value_exact text z e =
    let g = guarded (is_number text) (value_of (is_negative text) (parts_of text)) z e in
    let p = parts_of text in
    let c = chosen (is_whole p && fits (is_negative text) (whole_of p)) (with_sign (is_negative text) (whole_of p)) z g.1 in
    let both = and_parts (is_whole p) (fits (is_negative text) (whole_of p)) c.0 in
    record {
      grammar = IsNumber-from_test text g.0;
      size = whole_of p;
      exact = whole_writes (cond (is_negative text) (drop 1 text) text) (whole_of p) (whole-true p both.0, refl);
      signed = c.1;
      fits = subst (FitsSigned w64) (sym c.1) (fits_signed (is_negative text) (whole_of p) both.1);
    }

pub exact_value : (text : List ℕ) (z : ℤ) → IsValue text z → number_value text ≡ Some z
unfolding number_value
exact_value text z v =
    let p = parts_of text in
    let w = writes_whole (cond (is_negative text) (drop 1 text) text) v.size v.exact in
    let is : z ≡ with_sign (is_negative text) (whole_of p) = v.signed ∙ ap (with_sign (is_negative text)) w.1 in
    let f = signed_fits (is_negative text) (whole_of p) (subst (FitsSigned w64) is v.fits) in
    rw (is_number-from text v.grammar, whole-from p w.0, f) (ap Some (sym is))

-- what is computed from a text of the grammar is the value by the equation
pub number_exact : (text : List ℕ) (value : Option ℤ) → IsNumber text → value ≡ value_of (is_negative text) (parts_of text) → (z : ℤ) → (value ≡ Some z → IsValue text z) × (IsValue text z → value ≡ Some z)
unfolding number_value
number_exact text value n e z =
    let same : number_value text ≡ value = rw (is_number-from text n) (sym e) in
    (λ h. value_exact text z (same ∙ h), λ v. sym same ∙ exact_value text z v)
