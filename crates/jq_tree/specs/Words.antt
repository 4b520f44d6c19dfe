-- Which characters spell which token.
use Rattle.std.specs.Prelude.{◌≡◌, ℕ, ◌+◌, ◌*◌, ◌^◌, ◌<◌, ◌&&◌, ◌||◌, List, [], ◌∷◌, ◌++◌, Bool, true, false, length, nat_le, nat_eq, bytes_eq}
use Rattle.std.specs.Str.Parse.{digits_value}
use Rattle.jq_tree.specs.Tree.{Name}
use Rattle.jq_tree.specs.Token.{Keyword, Def, If, Then, Elif, Else, End, As, Reduce, Foreach, Try, Catch, Label, Break, Import, Include, Module, And, Or, Location, keyword_text, Symbol, symbol_text, Token, keyword, name, field, variable, format, number, symbol}

abbrev pub every : (ℕ → Bool) → List ℕ → Bool
every test [] = true
every test (c ∷ cs) = test c && every test cs

abbrev pub is_letter : ℕ → Bool
is_letter c = (nat_le 65 c && nat_le c 90) || (nat_le 97 c && nat_le c 122) || nat_eq c 95

abbrev pub is_digit : ℕ → Bool
is_digit c = nat_le 48 c && nat_le c 57

abbrev pub is_name_character : ℕ → Bool
is_name_character c = is_letter c || is_digit c

-- A letter or `_`, then letters, digits and `_`.
abbrev pub is_name : List ℕ → Bool
is_name [] = false
is_name (c ∷ cs) = is_letter c && every is_name_character cs

abbrev pub is_digits : List ℕ → Bool
is_digits [] = false
is_digits (c ∷ cs) = every is_digit (c ∷ cs)

abbrev pub is_format_name : List ℕ → Bool
is_format_name [] = false
is_format_name (c ∷ cs) = every is_name_character (c ∷ cs)

abbrev pub keywords : List Keyword
keywords = Def ∷ If ∷ Then ∷ Elif ∷ Else ∷ End ∷ As ∷ Reduce ∷ Foreach ∷ Try ∷ Catch ∷ Label ∷ Break ∷ Import ∷ Include ∷ Module ∷ And ∷ Or ∷ Location ∷ []

abbrev pub spells_one_of : List Keyword → List ℕ → Bool
spells_one_of [] s = false
spells_one_of (k ∷ ks) s = bytes_eq (keyword_text k) s || spells_one_of ks s

abbrev pub is_keyword : List ℕ → Bool
is_keyword s = spells_one_of keywords s

-- ---- numbers ("Basic filters"; the value as by RFC 8259, section 6)

-- The digits before and after the point, and the exponent: `up` if it is positive, `down` if it is negative.
pub record Numeral : Type 0 where
  pub whole : List ℕ
  pub fraction : List ℕ
  pub up : ℕ
  pub down : ℕ

-- digits, then maybe `.` and digits (or no digits), or `.` and digits
pub data Mantissa (text : List ℕ) : List ℕ → List ℕ → Type 0 where
  whole_alone : {ds : List ℕ} → text ≡ ds → is_digits ds ≡ true → Mantissa text ds []
  with_point : {ds fs : List ℕ} → text ≡ ds ++ 46 ∷ fs → is_digits ds ≡ true → every is_digit fs ≡ true → Mantissa text ds fs
  point_first : {fs : List ℕ} → text ≡ 46 ∷ fs → is_digits fs ≡ true → Mantissa text [] fs

abbrev pub is_e : ℕ → Bool
is_e c = nat_eq c 101 || nat_eq c 69

-- maybe `e` or `E`, an optional sign and digits
pub data Exponent (text : List ℕ) : ℕ → ℕ → Type 0 where
  no_exponent : text ≡ [] → Exponent text 0 0
  unsigned : (e : ℕ) (ds : List ℕ) → text ≡ e ∷ ds → is_e e ≡ true → is_digits ds ≡ true → Exponent text (digits_value 10 ds) 0
  with_plus : (e : ℕ) (ds : List ℕ) → text ≡ e ∷ 43 ∷ ds → is_e e ≡ true → is_digits ds ≡ true → Exponent text (digits_value 10 ds) 0
  with_minus : (e : ℕ) (ds : List ℕ) → text ≡ e ∷ 45 ∷ ds → is_e e ≡ true → is_digits ds ≡ true → Exponent text 0 (digits_value 10 ds)

-- The text of a number, and the number's parts.
pub record IsNumeral (text : List ℕ) (r : Numeral) : Type 0 where
  pub mantissa : List ℕ
  pub exponent : List ℕ
  pub parts : text ≡ mantissa ++ exponent
  pub digits : Mantissa mantissa r.whole r.fraction
  pub power : Exponent exponent r.up r.down

-- n is the exact value: with d the number of all digits in order, n is d * 10 ^ (up - down - count of the fraction's digits).
pub record IsValue (r : Numeral) (n : ℕ) : Type 0 where
  pub exact : n * 10 ^ (r.down + length r.fraction) ≡ digits_value 10 (r.whole ++ r.fraction) * 10 ^ r.up
  pub fits : n < 2 ^ 63

-- ---- words

-- The texts that have the form of a word; a number need not have a value. The quote of a string begins no word.
pub data Lexeme (text : List ℕ) : Type 0 where
  name_form : is_name text ≡ true → Lexeme text
  field_form : (n : Name) → text ≡ 46 ∷ n → is_name n ≡ true → Lexeme text
  variable_form : (n : Name) → text ≡ 36 ∷ n → is_name n ≡ true → Lexeme text
  format_form : (n : Name) → text ≡ 64 ∷ n → is_format_name n ≡ true → Lexeme text
  number_form : (r : Numeral) → IsNumeral text r → Lexeme text
  symbol_form : (y : Symbol) → text ≡ symbol_text y → Lexeme text

-- The token that a word spells. A number without a value spells none.
pub data Spells (text : List ℕ) : Token → Type 0 where
  spells_keyword : (k : Keyword) → text ≡ keyword_text k → Spells text (keyword k)
  spells_name : is_name text ≡ true → is_keyword text ≡ false → Spells text (name text)
  spells_field : (n : Name) → text ≡ 46 ∷ n → is_name n ≡ true → Spells text (field n)
  spells_variable : (n : Name) → text ≡ 36 ∷ n → is_name n ≡ true → Spells text (variable n)
  spells_format : (n : Name) → text ≡ 64 ∷ n → is_format_name n ≡ true → Spells text (format n)
  spells_number : (r : Numeral) (n : ℕ) → IsNumeral text r → IsValue r n → Spells text (number n)
  spells_symbol : (y : Symbol) → text ≡ symbol_text y → Spells text (symbol y)

-- The text is `word` and then `rest`, and no longer prefix is a word.
pub record Longest (text word rest : List ℕ) : Type 0 where
  pub front : text ≡ word ++ rest
  pub is_word : Lexeme word
  pub no_longer : (more after : List ℕ) → rest ≡ more ++ after → Lexeme (word ++ more) → more ≡ []
