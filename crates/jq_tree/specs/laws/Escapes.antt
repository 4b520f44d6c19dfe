-- The number that an escape represents.
use Rattle.std.specs.Prelude.{ℕ, ◌+◌, ◌*◌, Option, Some, None}

-- The number of four hexadecimal digits.
abbrev pub hex_number : Option ℕ → Option ℕ → Option ℕ → Option ℕ → Option ℕ
hex_number (Some i) (Some j) (Some k) (Some l) = Some (((i * 16 + j) * 16 + k) * 16 + l)
hex_number _ _ _ _ = None
