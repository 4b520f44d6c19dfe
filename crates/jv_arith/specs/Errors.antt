-- The errors of the operators.
use Rattle.std.specs.Prelude.{ℕ, List, ◌++◌, codes}
use Rattle.jv_data.specs.Fails.{kinds_then}
use Rattle.jv_data.specs.Kind.{kind_name}
use Rattle.jv_data.specs.Value.{Value}

-- two values of kinds that an operator does not accept together; `done` is what cannot be done to them
unfoldable pub cannot_be : List ℕ → Value → Value → List ℕ
cannot_be done v w = kinds_then v w (codes " cannot be " ++ done)

unfoldable pub cannot_be_added : Value → Value → List ℕ
cannot_be_added = cannot_be (codes "added")

unfoldable pub cannot_be_subtracted : Value → Value → List ℕ
cannot_be_subtracted = cannot_be (codes "subtracted")

unfoldable pub cannot_be_multiplied : Value → Value → List ℕ
cannot_be_multiplied = cannot_be (codes "multiplied")

unfoldable pub cannot_be_divided : Value → Value → List ℕ
cannot_be_divided = cannot_be (codes "divided")

unfoldable pub cannot_be_negated : Value → List ℕ
cannot_be_negated v = kind_name v ++ codes " cannot be negated"

unfoldable pub out_of_range : List ℕ
out_of_range = codes "result out of range"

unfoldable pub divisor_is_zero : List ℕ
divisor_is_zero = codes "divisor is zero"

unfoldable pub not_whole : List ℕ
not_whole = codes "quotient is not whole"

unfoldable pub repeat_too_long : List ℕ
repeat_too_long = codes "Repeat string result too long"
