-- Steps into a value, and operators on two values (manual of jq 1.7, "Basic filters", "Builtin operators and functions").
use Rattle.std.specs.Prelude.{List, [], ◌∷◌, ◌++◌, map, zip, Bool, true, false, not, Result, Ok, Err}
use Rattle.std.specs.Ordering.{is_lt, is_le, is_gt, is_ge}
use Rattle.jv_arith.specs.Arith.{add_of, sub_of, mul_of, div_of, rem_of}
use Rattle.jv_data.specs.Value.{Value, compare}
use Rattle.jv_value.specs.Index.{index_of}
use Rattle.jv_value.specs.Parts.{parts_of}
use Rattle.jq_natives.specs.Answers.{Answer, yes_or_no, is_same, part_keys}
use Rattle.jq_tree.specs.Tree.{Operator, plus, minus, times, divided, modulo, equal, not_equal, less, less_or_equal, greater, greater_or_equal}
use Rattle.jq_meaning.specs.Runs.{Item, plain, located, value_in, Run, none, one, fail, Done}

-- the part w of an item at a key; its path is the item's path and the key
abbrev pub part_of : Item → Value → Value → Item
part_of (plain v) key w = plain w
part_of (located v path) key w = located w (path ++ key ∷ [])

-- with `?` after a step an error is no output
abbrev pub guarded_fail : Bool → Value → Run Item
guarded_fail true e = none
guarded_fail false e = fail e

abbrev pub step_answer : Bool → Item → Value → Answer → Run Item
step_answer guarded x key (Ok w) = one (part_of x key w)
step_answer guarded x key (Err e) = guarded_fail guarded e

-- the part at a key
abbrev pub step : Bool → Item → Value → Run Item
step guarded x key = step_answer guarded x key (index_of (value_in x) key)

abbrev pub all_parts : Bool → Item → Result (List Value) Value → Run Item
all_parts guarded x (Ok vs) = record { items = map (λ p. part_of x p.0 p.1) (zip (part_keys (value_in x)) vs); ending = Done }
all_parts guarded x (Err e) = guarded_fail guarded e

-- every part with its key: the items in order, or the values in the order of their keys
abbrev pub each_part : Bool → Item → Run Item
each_part guarded x = all_parts guarded x (parts_of (value_in x))

-- what an operator returns for its left and its right value
abbrev pub operator_of : Operator → Value → Value → Answer
operator_of plus v w = add_of v w
operator_of minus v w = sub_of v w
operator_of times v w = mul_of v w
operator_of divided v w = div_of v w
operator_of modulo v w = rem_of v w
operator_of equal v w = yes_or_no (is_same v w)
operator_of not_equal v w = yes_or_no (not (is_same v w))
operator_of less v w = yes_or_no (is_lt (compare v w))
operator_of less_or_equal v w = yes_or_no (is_le (compare v w))
operator_of greater v w = yes_or_no (is_gt (compare v w))
operator_of greater_or_equal v w = yes_or_no (is_ge (compare v w))
