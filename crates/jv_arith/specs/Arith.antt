-- The operators `+ - * / %` and unary minus (manual of jq 1.7, "Builtin operators and functions"): the value, or the raised
-- error.
use Rattle.std.specs.Prelude.{◌++◌, ◌+ℤ◌, ◌-ℤ◌, ◌*ℤ◌, neg_ℤ, map, Result, Ok}
use Rattle.jv_data.specs.Fails.{raised}
use Rattle.jv_data.specs.Value.{Value, null, number, string, array, object, items_of}
use Rattle.jv_arith.specs.Arrays.{joined, left_over}
use Rattle.jv_arith.specs.Errors.{cannot_be_added, cannot_be_subtracted, cannot_be_multiplied, cannot_be_divided, cannot_be_negated}
use Rattle.jv_arith.specs.Numbers.{in_range, quotient, remainder}
use Rattle.jv_arith.specs.Objects.{union, deep_union}
use Rattle.jv_arith.specs.Strings.{repeated, split_of}

abbrev pub add_of : Value → Value → Result Value Value
add_of null w = Ok w
add_of v null = Ok v
add_of (number m) (number n) = in_range (m +ℤ n)
add_of (string s) (string t) = Ok (string (s ++ t))
add_of (array vs) (array ws) = Ok (array (joined vs ws))
add_of (object ms) (object ns) = Ok (object (union ms ns))
add_of v w = raised (cannot_be_added v w)

abbrev pub sub_of : Value → Value → Result Value Value
sub_of (number m) (number n) = in_range (m -ℤ n)
sub_of (array vs) (array ws) = Ok (array (left_over vs ws))
sub_of v w = raised (cannot_be_subtracted v w)

abbrev pub mul_of : Value → Value → Result Value Value
mul_of (number m) (number n) = in_range (m *ℤ n)
mul_of (string s) (number n) = repeated s n
mul_of (number n) (string s) = repeated s n
mul_of (object ms) (object ns) = Ok (object (deep_union ms ns))
mul_of v w = raised (cannot_be_multiplied v w)

abbrev pub div_of : Value → Value → Result Value Value
div_of (number m) (number n) = quotient m n
div_of (string s) (string t) = Ok (array (items_of (map string (split_of s t))))
div_of v w = raised (cannot_be_divided v w)

abbrev pub rem_of : Value → Value → Result Value Value
rem_of (number m) (number n) = remainder m n
rem_of v w = raised (cannot_be_divided v w)

abbrev pub neg_of : Value → Result Value Value
neg_of (number n) = in_range (neg_ℤ n)
neg_of v = raised (cannot_be_negated v)
