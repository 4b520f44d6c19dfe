-- The kind of a word by its first characters.
use Rattle.std.proofs.Common.{◌≡◌, ◌∙◌, ℕ, List, [], ◌∷◌, ◌++◌, true, nat_eq, refl, ap}
use Rattle.std.specs.Prelude.{if◌then◌else◌}
use Rattle.std.proofs.lemmas.Bool.{cond-true, cond-false}
use Rattle.jq_tree.specs.Token.{Keyword, Symbol, keyword_text, symbol_text}
use Rattle.jq_tree.specs.Token as token
use Rattle.jq_tree.specs.Words.{every, is_letter, is_digit, is_digits, is_name, is_name_character, Numeral, Mantissa, whole_alone, with_point, point_first, IsNumeral}
use Rattle.jq_tree.proofs.shared.Fronts.{and_left}
use Rattle.jq_tree.proofs.shared.OneNumber.{digit_no_letter}

abbrev pub tag_after_point : List ℕ → ℕ
tag_after_point [] = 6
tag_after_point (c ∷ cs) = if is_letter c then 2 else if is_digit c then 5 else 6

-- 1: a name or a keyword, 2: a field, 3: a variable, 4: a format, 5: a number, 6: a symbol
abbrev pub tag : List ℕ → ℕ
tag [] = 0
tag (c ∷ cs) = if is_letter c then 1 else if is_digit c then 5 else if nat_eq c 36 then 3 else if nat_eq c 64 then 4
    else if nat_eq c 46 then tag_after_point cs else 6

-- ---- by the first character, or by the one after a point

pub letter_tag : (c : ℕ) (cs : List ℕ) → is_letter c ≡ true → tag (c ∷ cs) ≡ 1
letter_tag c cs h = cond-true (is_letter c) 1 _ h

digit_tag : (c : ℕ) (cs : List ℕ) → is_digit c ≡ true → tag (c ∷ cs) ≡ 5
digit_tag c cs h = cond-false (is_letter c) 1 _ (digit_no_letter c h) ∙ cond-true (is_digit c) 5 _ h

pub point_letter_tag : (c : ℕ) (cs : List ℕ) → is_letter c ≡ true → tag (46 ∷ c ∷ cs) ≡ 2
point_letter_tag c cs h = cond-true (is_letter c) 2 _ h

point_digit_tag : (c : ℕ) (cs : List ℕ) → is_digit c ≡ true → tag (46 ∷ c ∷ cs) ≡ 5
point_digit_tag c cs h = cond-false (is_letter c) 2 _ (digit_no_letter c h) ∙ cond-true (is_digit c) 5 6 h

-- ---- of each kind of word

pub symbol_tag : (y : Symbol) → tag (symbol_text y) ≡ 6
symbol_tag token.not_equal = refl
symbol_tag _ = refl

pub keyword_is_name : (k : Keyword) → is_name (keyword_text k) ≡ true
keyword_is_name token.Def = refl
keyword_is_name _ = refl

pub name_tag : (n : List ℕ) → is_name n ≡ true → tag n ≡ 1
name_tag [] h = absurd (cc h)
name_tag (c ∷ cs) h = letter_tag c cs (and_left (is_letter c) (every is_name_character cs) h)

pub field_tag : (n : List ℕ) → is_name n ≡ true → tag_after_point n ≡ 2
field_tag [] h = absurd (cc h)
field_tag (c ∷ cs) h = point_letter_tag c cs (and_left (is_letter c) (every is_name_character cs) h)

digits_tag : (ds rest : List ℕ) → is_digits ds ≡ true → tag (ds ++ rest) ≡ 5
digits_tag [] rest h = absurd (cc h)
digits_tag (c ∷ cs) rest h = digit_tag c (cs ++ rest) (and_left (is_digit c) (every is_digit cs) h)

with_point_tag : (ds fs rest : List ℕ) → is_digits ds ≡ true → tag ((ds ++ 46 ∷ fs) ++ rest) ≡ 5
with_point_tag [] fs rest h = absurd (cc h)
with_point_tag (c ∷ cs) fs rest h = digit_tag c ((cs ++ 46 ∷ fs) ++ rest) (and_left (is_digit c) (every is_digit cs) h)

point_tag : (fs rest : List ℕ) → is_digits fs ≡ true → tag ((46 ∷ fs) ++ rest) ≡ 5
point_tag [] rest h = absurd (cc h)
point_tag (c ∷ cs) rest h = point_digit_tag c (cs ++ rest) (and_left (is_digit c) (every is_digit cs) h)

pub mantissa_tag : (xs rest : List ℕ) {ds fs : List ℕ} → Mantissa xs ds fs → tag (xs ++ rest) ≡ 5
mantissa_tag xs rest (whole_alone {ds} e h) = ap (λ (t : List ℕ). tag (t ++ rest)) e ∙ digits_tag ds rest h
mantissa_tag xs rest (with_point {ds} {fs} e h k) = ap (λ (t : List ℕ). tag (t ++ rest)) e ∙ with_point_tag ds fs rest h
mantissa_tag xs rest (point_first {fs} e h) = ap (λ (t : List ℕ). tag (t ++ rest)) e ∙ point_tag fs rest h

pub number_tag : (text : List ℕ) (r : Numeral) → IsNumeral text r → tag text ≡ 5
number_tag text r h = ap tag h.parts ∙ mantissa_tag h.mantissa h.exponent h.digits
