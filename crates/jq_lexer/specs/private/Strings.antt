-- The characters of a string, one after the other. For private contracts.
use Rattle.std.specs.Prelude.{ℕ, ◌+◌, ◌-◌, ◌*◌, List, [], ◌∷◌, nat_eq, Option, Some, None, if◌then◌else◌}
use Rattle.jq_tree.specs.Lexing.{hex_value, is_high_surrogate, is_low_surrogate, escaped}
use Rattle.jq_tree.specs.laws.Escapes.{hex_number}

-- The number of four hexadecimal digits, and the characters after them.
abbrev pub before : List ℕ → Option ℕ → Option (ℕ × List ℕ)
before rest None = None
before rest (Some n) = Some (n, rest)

abbrev pub four_digits : List ℕ → Option (ℕ × List ℕ)
four_digits (a ∷ b ∷ c ∷ d ∷ rest) = before rest (hex_number (hex_value a) (hex_value b) (hex_value c) (hex_value d))
four_digits _ = None

abbrev pub if_low : Option (ℕ × List ℕ) → Option (ℕ × List ℕ)
if_low None = None
if_low (Some p) = if is_low_surrogate p.0 then Some p else None

abbrev pub low_surrogate : List ℕ → Option (ℕ × List ℕ)
low_surrogate (c ∷ d ∷ rest) = if nat_eq c 92 then (if nat_eq d 117 then if_low (four_digits rest) else None) else None
low_surrogate _ = None

abbrev pub paired : ℕ → Option (ℕ × List ℕ) → Option (ℕ × List ℕ)
paired high None = None
paired high (Some p) = Some (0x10000 + (high - 0xd800) * 0x400 + (p.0 - 0xdc00), p.1)

abbrev pub by_unit : Option (ℕ × List ℕ) → Option (ℕ × List ℕ)
by_unit None = None
by_unit (Some p) = if is_high_surrogate p.0 then paired p.0 (low_surrogate p.1) else if is_low_surrogate p.0 then None else Some p

abbrev pub unicode_escape : List ℕ → Option (ℕ × List ℕ)
unicode_escape text = by_unit (four_digits text)

abbrev pub escape : List ℕ → Option (ℕ × List ℕ)
escape [] = None
escape (c ∷ rest) = if nat_eq c 117 then unicode_escape rest else before rest (escaped c)

-- The character of a string that the text begins with, and what follows.
abbrev pub first_character : List ℕ → Option (ℕ × List ℕ)
first_character [] = None
first_character (c ∷ rest) = if nat_eq c 34 then None else if nat_eq c 92 then escape rest else Some (c, rest)
