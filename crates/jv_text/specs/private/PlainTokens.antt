-- The tokens of a text whose numbers are in the form in which whole numbers are printed. For private contracts.
use Rattle.std.specs.Prelude.{◌≡◌, ℕ, ℤ, List, [], ◌∷◌, Some, option_and_then}
use Rattle.std.specs.Str.{IsUtf8}
use Rattle.json.specs.Lex.{tokens}
use Rattle.json.specs.Token.{Token, begin_object, end_object, begin_array, end_array, key, string, number, boolean, null, bad}
use Rattle.serde_json.specs.Find.{as_i64}
use Rattle.serde_json.specs.Read.{number_of}
use Rattle.jv_cut.specs.declared.nesting.Quote.TheVariants.{Outside}
use Rattle.jv_data.specs.Value.{Value}
use Rattle.jv_text.specs.Numbers.{run_text, whole_numbers}
use Rattle.jv_text.specs.Plain.{plain_value}

-- the token is no fault, and a number is in printed form
abbrev pub IsPlain : Token → Type 0
IsPlain begin_object = Unit {0}
IsPlain end_object = Unit {0}
IsPlain begin_array = Unit {0}
IsPlain end_array = Unit {0}
IsPlain (key s) = Unit {0}
IsPlain (string s) = Unit {0}
IsPlain (number s) = run_text s ≡ Some s
IsPlain (boolean b) = Unit {0}
IsPlain null = Unit {0}
IsPlain bad = ⊥

abbrev pub ArePlain : List Token → Type 0
ArePlain [] = Unit {0}
ArePlain (t ∷ ts) = IsPlain t × ArePlain ts

-- the tokens of `old` before those of `new` are plain
pub record KeepsPlain (old new : List Token) : Type 0 where
  pub plain : ArePlain new → ArePlain old

-- a number in printed form, and its value
pub record IsPlainNumber (text : List ℕ) (z : ℤ) : Type 0 where
  pub plain : run_text text ≡ Some text
  pub value : option_and_then as_i64 (number_of text) ≡ Some z

-- a text that is one number in printed form, and its value
pub record IsShortNumber (text : List ℕ) (z : ℤ) : Type 0 where
  pub printed : IsPlainNumber text z
  pub alone : tokens text ≡ number text ∷ []
  pub utf8 : IsUtf8 text

-- a text whose numbers are in printed form, and its value
pub record IsSmallText (text : List ℕ) (v : Value) : Type 0 where
  pub value : plain_value text ≡ Some v
  pub plain : whole_numbers Outside [] text ≡ Some text
