-- Laws of the value of a number text (RFC 8259, section 6).
use Rattle.std.specs.Prelude.{◌≡◌, ◌↔◌, ℕ, ℤ, List, true, Some}
use Rattle.json.specs.Print.{IsNumber}
use Rattle.fast_float.specs.Text.{scan, IsWhole, whole_of}
use Rattle.jv_number.specs.Number.{is_number, number_value, IsValue, Writes}

-- The test for a number is true exactly for the texts of the grammar.
abbrev pub TestIsTheGrammar : Type 0
TestIsTheGrammar = (text : List ℕ) → (is_number text ≡ true) ↔ IsNumber text

-- The equation of a text's digits and exponent has a solution exactly if the digits after the moved point are all 0, and
-- then the digits before it are the only solution.
abbrev pub ShiftedDigitsSolve : Type 0
ShiftedDigitsSolve = (text : List ℕ) (n : ℕ) → Writes (scan text) n ↔ (IsWhole (scan text) × (n ≡ whole_of (scan text)))

-- The function that shifts digits gives exactly the value.
abbrev pub ValueSolves : Type 0
ValueSolves = (text : List ℕ) (z : ℤ) → (number_value text ≡ Some z) ↔ IsValue text z
