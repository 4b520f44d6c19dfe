-- Slices of arrays and strings (manual of jq 1.7, "Array/String Slice").
use Rattle.std.specs.Prelude.{ℕ, ℤ, pos, negsuc, ◌+◌, ◌-◌, min, max, List, length, slice_range, Option, Some, None, option_map, option_and_then, Result, ok_or}
use Rattle.jv_data.specs.Value.{Value, null, number, string, array, items_of}
use Rattle.jv_value.specs.ErrorTexts.{not_slice_bounds}

-- A bound over n parts: a negative one counts from the end, and the result is clamped to 0 to n.
abbrev pub bound_over : ℕ → ℤ → ℕ
bound_over n (pos b) = min b n
bound_over n (negsuc b) = n - (b + 1)

-- the bound of a value: `missing` for null, and None for a value that is neither null nor a number
abbrev pub bound_of : ℕ → ℕ → Value → Option ℕ
bound_of n missing null = Some missing
bound_of n missing (number b) = Some (bound_over n b)
bound_of n missing v = None

-- the start and the end of the slice: a null start is 0, a null end n, and an end before the start is the start
abbrev pub range_of : ℕ → Value → Value → Option (ℕ × ℕ)
range_of n start end = option_and_then (λ a. option_map (λ b. (a, max a b)) (bound_of n n end)) (bound_of n 0 start)

abbrev pub slice_of_array : List Value → Value → Value → Result Value Value
slice_of_array vs start end = ok_or (option_map (λ r. array (items_of (slice_range vs r.0 r.1))) (range_of (length vs) start end)) (string not_slice_bounds)

-- a slice of the code points
abbrev pub slice_of_string : List ℕ → Value → Value → Result Value Value
slice_of_string s start end = ok_or (option_map (λ r. string (slice_range s r.0 r.1)) (range_of (length s) start end)) (string not_slice_bounds)
