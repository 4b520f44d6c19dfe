-- What a native answers: a value, or the error that it raises.
use Rattle.std.specs.Prelude.{ℕ, pos, List, [], length, Bool, true, false, Result, Ok, map}
use Rattle.std.specs.List.{range_with_len}
use Rattle.std.specs.Ordering.{is_eq}
use Rattle.jv_data.specs.Value.{Value, null, boolean, number, string, array, object, keys, items_of, values_of, compare}

abbrev pub Answer : Type 0
Answer = Result Value Value

abbrev pub yes_or_no : Bool → Answer
yes_or_no b = Ok (boolean b)

abbrev pub count : ℕ → Value
count n = number (pos n)

abbrev pub counts : List ℕ → Value
counts ns = array (items_of (map count ns))

-- the keys of a value's parts: the indices of an array, or the keys of an object in order
abbrev pub part_keys : Value → List Value
part_keys (array vs) = map count (range_with_len 0 (length (values_of vs)))
part_keys (object ms) = map string (keys ms)
part_keys v = []

-- equal in the order of values
abbrev pub is_same : Value → Value → Bool
is_same v w = is_eq (compare v w)

-- null and false are not true, and every other value is (manual of jq 1.7, "if-then-else-end")
abbrev pub is_true : Value → Bool
is_true null = false
is_true (boolean b) = b
is_true v = true
