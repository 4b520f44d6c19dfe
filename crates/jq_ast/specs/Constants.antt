-- Which values are constants.
use Rattle.std.specs.Prelude.{Bool, true, false}
use Rattle.jv_data.specs.Value.{Value}
use Rattle.jv_data.specs.Value as value

-- Null, a boolean, a number or a string.
abbrev pub is_constant : Value → Bool
is_constant (value.array vs) = false
is_constant (value.object ms) = false
is_constant v = true

abbrev pub is_text : Value → Bool
is_text (value.string s) = true
is_text v = false
