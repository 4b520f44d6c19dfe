-- The value of a number text (RFC 8259, section 6): its exact value, if that is a whole number of 64 bits.
use Rattle.std.specs.Prelude.{◌≡◌, ℕ, ◌-◌, ◌*◌, ◌^◌, ◌&&◌, ◌==◌, nat_le, List, [], ◌∷◌, ◌++◌, drop, slice_index, Bool, true, false, ℤ, if◌then◌else◌, Option, Some, None, FitsSigned}
use Rattle.std.specs.Int.{w64}
use Rattle.std.specs.Str.Parse.{digits_value}
use Rattle.json.specs.Word.{after_number}
use Rattle.json.specs.Print.{IsNumber}
use Rattle.fast_float.specs.Text.{Parts, scan, minus, digits_of, tens_up, tens_down, point_at, whole_of, with_sign}

abbrev pub is_negative : List ℕ → Bool
is_negative text = slice_index text 0 == minus

-- the integer part, the fraction and the exponent of the text after its sign
abbrev pub parts_of : List ℕ → Parts
parts_of text = scan (if is_negative text then drop 1 text else text)

-- n is d * 10 ^ q, where d is the number with the digits of the integer part and the fraction, and q is the exponent minus
-- the count of the fraction's digits. If q is negative, n * 10 ^ (-q) is d.
abbrev pub Writes : Parts → ℕ → Type 0
Writes parts n = n * 10 ^ tens_down parts ≡ digits_of parts * 10 ^ tens_up parts

-- z is the value of the text
pub record IsValue (text : List ℕ) (z : ℤ) : Type 0 where
  pub grammar : IsNumber text
  pub size : ℕ
  pub exact : Writes (parts_of text) size
  pub signed : z ≡ with_sign (is_negative text) size
  pub fits : FitsSigned w64 z

-- ---- the same as a function, which shifts digits

abbrev pub is_nothing : Option (List ℕ) → Bool
is_nothing None = false
is_nothing (Some []) = true
is_nothing (Some (x ∷ xs)) = false

-- the whole text is a number of the grammar
abbrev pub is_number : List ℕ → Bool
is_number text = is_nothing (after_number text)

-- the digits after the point, once the exponent has moved it, are all 0
abbrev pub is_whole : Parts → Bool
is_whole parts = digits_value 10 (drop (point_at parts) (parts.whole ++ parts.fraction)) == 0

abbrev pub fits : Bool → ℕ → Bool
fits negative n = nat_le n (if negative then 2 ^ 63 else 2 ^ 63 - 1)

abbrev pub value_of : Bool → Parts → Option ℤ
value_of negative parts = if is_whole parts && fits negative (whole_of parts) then Some (with_sign negative (whole_of parts)) else None

unfoldable pub number_value : List ℕ → Option ℤ
number_value text = if is_number text then value_of (is_negative text) (parts_of text) else None
