-- The lengths of a number's parts. For private contracts.
use Rattle.std.specs.Prelude.{ℕ, suc, zero, ◌+◌, List, [], ◌∷◌, Bool, ◌||◌, drop, nat_eq, Option, Some, None, if◌then◌else◌}
use Rattle.std.specs.List.{prefix_len}
use Rattle.jq_tree.specs.Words.{is_digit, is_e, Numeral, IsNumeral, IsValue}
use Rattle.jq_lexer.specs.declared.tokens.Natural.{Natural}

abbrev pub digits_length : List ℕ → ℕ
digits_length text = prefix_len is_digit text

-- The length of a point and the digits after it.
abbrev pub fraction_length : List ℕ → ℕ
fraction_length [] = 0
fraction_length (c ∷ cs) = if nat_eq c 46 then 1 + digits_length cs else 0

abbrev pub after_letter : ℕ → ℕ → ℕ
after_letter front zero = 0
after_letter front (suc n) = front + suc n

abbrev pub is_sign : ℕ → Bool
is_sign c = nat_eq c 43 || nat_eq c 45

-- The length of an optional sign and digits, and of the letter before them; 0 without a digit.
abbrev pub power_length : List ℕ → ℕ
power_length [] = 0
power_length (c ∷ cs) = if is_sign c then after_letter 2 (digits_length cs) else after_letter 1 (digits_length (c ∷ cs))

abbrev pub exponent_length : List ℕ → ℕ
exponent_length [] = 0
exponent_length (c ∷ cs) = if is_e c then power_length cs else 0

abbrev pub mantissa_length : List ℕ → ℕ
mantissa_length text = digits_length text + fraction_length (drop (digits_length text) text)

abbrev pub number_length : List ℕ → ℕ
number_length text = mantissa_length text + exponent_length (drop (mantissa_length text) text)

-- The value of a numeral, if it has one.
abbrev pub HasValue : Numeral → Option Natural → Type 0
HasValue r None = (n : ℕ) → ¬ IsValue r n
HasValue r (Some v) = IsValue r v.value

-- The value of the text as a numeral.
abbrev pub IsValueOf : List ℕ → Option Natural → Type 0
IsValueOf text o = (r : Numeral) → IsNumeral text r → HasValue r o
