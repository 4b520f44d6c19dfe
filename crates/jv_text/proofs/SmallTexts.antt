-- The tokens of a text that is one short number or a literal.
use Rattle.std.proofs.Common.{◌≡◌, ◌∙◌, ℕ, ℤ, ◌-◌, ◌<◌, ◌≤◌, Bool, true, false, ◌==◌, List, [], ◌∷◌, ◌++◌, length, take, drop, Some, inl, inr, refl, sym, ap, subst, arith, ne_eqb, le-leb, take_all, pos, ◌-ℤ◌, to_z, of_z}
use Rattle.std.proofs.lemmas.Bool.{and_from, eqb-true, cases_Bool}
use Rattle.std.proofs.Math.Seq.{drop-length}
use Rattle.std.proofs.lemmas.Str.Parse.{digit_from_value}
use Rattle.std.specs.Char.{is_ascii, is_ascii_digit, digit_value}
use Rattle.std.specs.Fmt.{sign_text}
use Rattle.std.specs.Int.{w64}
use Rattle.std.specs.Prelude.{slice_index}
use Rattle.std.specs.List.{prefix_len, list_all}
use Rattle.std.specs.Str.{IsUtf8}
use Rattle.std.specs.Str.Parse.{AllDigits}
use Rattle.json.specs.Lex.{token, between, in_word, lex, punctuate, tokens}
use Rattle.json.specs.Token.{number, boolean, null}
use Rattle.json.specs.Word.{after_digits, after_minus, after_whole, after_number, word}
use Rattle.json.proofs.OnLiterals.{json_on_literals}
use Rattle.jv_data.proofs.shared.Ascii.{ascii_utf8}
use Rattle.jv_data.specs.Value.{Value}
use Rattle.jv_data.specs.Value as values
use Rattle.jv_text.specs.private.PlainTokens.{IsShortNumber, IsSmallText}
use Rattle.jv_text.specs.private.Runs.{AreShort, IsShort}
use Rattle.jv_number.specs.laws.Numbers.{TestIsTheGrammar, ValueSolves}
use Rattle.jv_text.proofs.Short.{plain_positive, plain_negative}
use Rattle.jv_text.proofs.Taken.{taken_null, taken_boolean, taken_number, all_read}
use Rattle.jv_text.proofs.TokenRuns.{AllOther, digit_is_other, took_first, took_none, took_all}

-- ---- the bytes of digits

is_digit : (d : ℕ) → digit_value d < 10 → is_ascii_digit d ≡ true
is_digit d h = let range = digit_from_value d h in and_from _ _ (le-leb 48 d (omega (arith, range))) (le-leb d 57 (omega (arith, range)))

all_digits : (ds : List ℕ) → AllDigits 10 ds → prefix_len is_ascii_digit ds ≡ length ds
all_digits [] h = refl
all_digits (d ∷ ds) h = rw (is_digit d h.0) (omega (arith, all_digits ds h.1))

others : (ds : List ℕ) → AllDigits 10 ds → AllOther ds
others [] h = tt
others (d ∷ ds) h = (digit_is_other d (is_digit d h.0), others ds h.1)

ascii_digit : (d : ℕ) → digit_value d < 10 → is_ascii d ≡ true
ascii_digit d h = let range = digit_from_value d h in grind (arith, range)

all_ascii : (ds : List ℕ) → AllDigits 10 ds → list_all is_ascii ds ≡ true
all_ascii [] h = refl
all_ascii (d ∷ ds) h = and_from _ _ (ascii_digit d h.0) (all_ascii ds h.1)

-- ---- the grammar of numbers

digits_end : (ds : List ℕ) → AreShort ds → after_digits ds ≡ Some []
digits_end ds s =
    let some = s.some in
    rw (all_digits ds s.digits, ne_eqb (length ds) 0 (λ e. omega arith)) (ap Some (drop-length ds))

is_nil : (ds : List ℕ) → length ds ≡ 0 → ds ≡ []
is_nil [] e = refl
is_nil (d ∷ ds) e = absurd (omega arith)

whole_end : (ds : List ℕ) → AreShort ds → after_whole ds ≡ Some []
whole_end [] s = let some = s.some in absurd (omega arith)
whole_end (d ∷ ds) s =
    elim (cases_Bool (d == 48)) [
      | inl zero ↦ let one = s.lead (eqb-true d 48 zero) in let none : ds ≡ [] = is_nil ds (omega arith) in rw zero (ap Some none)
      | inr more ↦ rw more (digits_end (d ∷ ds) s)
    ]

no_minus : (ds : List ℕ) → AreShort ds → after_minus ds ≡ ds
no_minus [] s = refl
no_minus (d ∷ ds) s =
    let range = digit_from_value d s.digits.0 in
    rw (ne_eqb d 45 (λ e. omega (arith, range))) refl

after_sign_is : (negative : Bool) (ds : List ℕ) → AreShort ds → after_minus (sign_text negative ++ ds) ≡ ds
after_sign_is true ds s = refl
after_sign_is false ds s = no_minus ds s

number_end : (negative : Bool) (ds : List ℕ) → AreShort ds → after_number (sign_text negative ++ ds) ≡ Some []
unfolding after_number
number_end negative ds s = rw (after_sign_is negative ds s, whole_end ds s) refl

-- ---- the tokens

no_lexemes : (xs : List ℕ) → AllOther xs → lex in_word xs ≡ []
unfolding lex
no_lexemes [] h = refl
no_lexemes (x ∷ xs) h = rw h.0 (no_lexemes xs h.1)

one_word : (x : ℕ) (xs : List ℕ) → AllOther (x ∷ xs) → lex between (x ∷ xs) ≡ token (word (x ∷ xs)) ∷ []
unfolding lex
one_word x xs h = rw h.0 (ap (λ ls. token (word (x ∷ xs)) ∷ ls) (no_lexemes xs h.1))

number_word : (x : ℕ) (xs : List ℕ) → x ≤ 57 → after_number (x ∷ xs) ≡ Some [] → word (x ∷ xs) ≡ number (x ∷ xs)
unfolding word
number_word x xs low end =
    rw (ne_eqb x 116 (λ e. omega arith), ne_eqb x 102 (λ e. omega arith), ne_eqb x 110 (λ e. omega arith), end) (ap number (take_all (length (x ∷ xs) - 0) (x ∷ xs) (omega arith)))

number_tokens : (x : ℕ) (xs : List ℕ) → AllOther (x ∷ xs) → x ≤ 57 → after_number (x ∷ xs) ≡ Some [] → tokens (x ∷ xs) ≡ number (x ∷ xs) ∷ []
unfolding punctuate
number_tokens x xs others low end = rw (one_word x xs others, number_word x xs low end) refl

pub short_tokens : (negative : Bool) (ds : List ℕ) → AreShort ds → tokens (sign_text negative ++ ds) ≡ number (sign_text negative ++ ds) ∷ []
short_tokens true ds s = number_tokens 45 ds (refl, others ds s.digits) (omega arith) (number_end true ds s)
short_tokens false [] s = let some = s.some in absurd (omega arith)
short_tokens false (d ∷ ds) s =
    let range = digit_from_value d s.digits.0 in
    number_tokens d ds (others (d ∷ ds) s.digits) (omega (arith, range)) (number_end false (d ∷ ds) s)

pub short_utf8 : (negative : Bool) (ds : List ℕ) → AreShort ds → IsUtf8 (sign_text negative ++ ds)
short_utf8 true ds s = ascii_utf8 (45 ∷ ds) (all_ascii ds s.digits)
short_utf8 false ds s = ascii_utf8 ds (all_ascii ds s.digits)

-- ---- the number that is read

after_the_minus : (text ds : List ℕ) → (slice_index text 0 == 45) ≡ true → 0 < length text → take (length text - 1) (drop 1 text) ≡ ds → 45 ∷ ds ≡ text
after_the_minus [] ds e some same = absurd (omega arith)
after_the_minus (x ∷ xs) ds e some same =
    let after : xs ≡ ds = sym (take_all (length (x ∷ xs) - 1) xs (omega arith)) ∙ same in
    ap (λ l. 45 ∷ l) (sym after) ∙ ap (λ y. y ∷ xs) (sym (eqb-true x 45 e))

pub short_positive : TestIsTheGrammar → ValueSolves → (text ds : List ℕ) (n : ℕ) → ds ≡ text → IsShort ds n → IsShortNumber text (to_z w64 n)
short_positive grammar solves text ds n same s =
    record {
      printed = plain_positive grammar solves text ds n same s;
      alone = subst (λ t. tokens t ≡ number t ∷ []) same (short_tokens false ds s.short);
      utf8 = subst IsUtf8 same (short_utf8 false ds s.short);
    }

pub short_negative : TestIsTheGrammar → ValueSolves → (text ds : List ℕ) (n : ℕ) → (slice_index text 0 == 45) ≡ true → 0 < length text → take (length text - 1) (drop 1 text) ≡ ds → IsShort ds n → 0 < n
    → IsShortNumber text (to_z w64 (of_z w64 (pos 0 -ℤ to_z w64 n)))
short_negative grammar solves text ds n e some same s h =
    let is : 45 ∷ ds ≡ text = after_the_minus text ds e some same in
    record {
      printed = plain_negative grammar solves text ds n e some same s h;
      alone = subst (λ t. tokens t ≡ number t ∷ []) is (short_tokens true ds s.short);
      utf8 = subst IsUtf8 is (short_utf8 true ds s.short);
    }

-- ---- the value

pub small_number : (text : List ℕ) (v : Value) (z : ℤ) → IsShortNumber text z → v ≡ values.number z → IsSmallText text v
small_number text v z n is =
    record {
      value = all_read text (tokens text) [] v refl refl n.utf8 (taken_number 127 (tokens text) [] v text z n.alone n.printed is);
      plain = took_all text (tokens text) [] refl refl (took_first (number text) (tokens text) [] [] n.alone n.printed.plain (took_none [] [] refl));
    }

pub small_null : (text : List ℕ) (v : Value) → text ≡ 110 ∷ 117 ∷ 108 ∷ 108 ∷ [] → v ≡ values.null → IsSmallText text v
unfolding json_on_literals
small_null text v e is =
    let one : tokens text ≡ null ∷ [] = ap tokens e in
    record {
      value = all_read text (tokens text) [] v refl refl (subst IsUtf8 (sym e) (ascii_utf8 _ refl)) (taken_null 127 (tokens text) [] v one is);
      plain = took_all text (tokens text) [] refl refl (took_first null (tokens text) [] [] one tt (took_none [] [] refl));
    }

boolean_text : (text name : List ℕ) (v : Value) (b : Bool) → text ≡ name → list_all is_ascii name ≡ true → tokens name ≡ boolean b ∷ [] → v ≡ values.boolean b → IsSmallText text v
boolean_text text name v b e ascii lone is =
    let one : tokens text ≡ boolean b ∷ [] = ap tokens e ∙ lone in
    record {
      value = all_read text (tokens text) [] v refl refl (subst IsUtf8 (sym e) (ascii_utf8 name ascii)) (taken_boolean 127 (tokens text) [] v b one is);
      plain = took_all text (tokens text) [] refl refl (took_first (boolean b) (tokens text) [] [] one tt (took_none [] [] refl));
    }

pub small_true : (text : List ℕ) (v : Value) → text ≡ 116 ∷ 114 ∷ 117 ∷ 101 ∷ [] → v ≡ values.boolean true → IsSmallText text v
unfolding json_on_literals
small_true text v e is = boolean_text text (116 ∷ 114 ∷ 117 ∷ 101 ∷ []) v true e refl refl is

pub small_false : (text : List ℕ) (v : Value) → text ≡ 102 ∷ 97 ∷ 108 ∷ 115 ∷ 101 ∷ [] → v ≡ values.boolean false → IsSmallText text v
unfolding json_on_literals
small_false text v e is = boolean_text text (102 ∷ 97 ∷ 108 ∷ 115 ∷ 101 ∷ []) v false e refl refl is
