-- Arithmetic on whole numbers: computed without bounds; a result that does not fit 64 bits is an error.
use Rattle.std.specs.Prelude.{◌^◌, ◌==◌, ℤ, pos, negsuc, Bool, cond, nat_lt, int_div, int_rem, unsigned_abs, Result, Ok}
use Rattle.jv_data.specs.Fails.{raised}
use Rattle.jv_data.specs.Value.{Value, number}
use Rattle.jv_arith.specs.Errors.{out_of_range, divisor_is_zero, not_whole}

-- n is from -2^63 to 2^63 - 1; `negsuc n` is -(n + 1)
abbrev pub fits_64 : ℤ → Bool
fits_64 (pos n) = nat_lt n (2 ^ 63)
fits_64 (negsuc n) = nat_lt n (2 ^ 63)

abbrev pub in_range : ℤ → Result Value Value
in_range n = cond (fits_64 n) (Ok (number n)) (raised out_of_range)

abbrev pub is_zero : ℤ → Bool
is_zero n = unsigned_abs n == 0

abbrev pub quotient : ℤ → ℤ → Result Value Value
quotient m n = cond (is_zero n) (raised divisor_is_zero) (cond (is_zero (int_rem m n)) (in_range (int_div m n)) (raised not_whole))

-- the remainder of the division that rounds towards 0 has the sign of the dividend
abbrev pub remainder : ℤ → ℤ → Result Value Value
remainder m n = cond (is_zero n) (raised divisor_is_zero) (Ok (number (int_rem m n)))
