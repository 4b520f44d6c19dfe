-- The part of a value at a key (manual of jq 1.7, "Object Identifier-Index", "Array Index", "Array/String Slice").
use Rattle.std.specs.Prelude.{ℕ, ℤ, pos, negsuc, ◌+◌, ◌-◌, nat_lt, List, codes, length, slice_get, if◌then◌else◌, Option, Some, None, unwrap_or, Result, Ok, Err}
use Rattle.std.specs.Option.{option_map_or}
use Rattle.jv_data.specs.Members.{member_or_null}
use Rattle.jv_data.specs.Value.{Value, null, number, string, array, object, values_of, Members, no_members, member}
use Rattle.jv_value.specs.ErrorTexts.{cannot_index, key_name}
use Rattle.jv_value.specs.Slice.{slice_of_array, slice_of_string}

-- an index among n items, counted from the start; a negative one counts from the end
abbrev pub place_of : ℕ → ℤ → Option ℕ
place_of n (pos i) = if nat_lt i n then Some i else None
place_of n (negsuc i) = if nat_lt i n then Some (n - (i + 1)) else None

abbrev pub item_at : ℤ → List Value → Option Value
item_at i vs = option_map_or (slice_get vs) (place_of (length vs) i) None

-- an object as a key of an array or a string: its bounds are at `start` and `end`, and a missing one is null
abbrev pub start_in : Members → Value
start_in ms = member_or_null (codes "start") ms

abbrev pub end_in : Members → Value
end_in ms = member_or_null (codes "end") ms

-- The part at a key, null if there is none, or the error that is raised.
abbrev pub index_of : Value → Value → Result Value Value
index_of null (string s) = Ok null
index_of null (number n) = Ok null
index_of null (object ms) = Ok null
index_of (object ms) (string s) = Ok (member_or_null s ms)
index_of (array vs) (number n) = Ok (unwrap_or (item_at n (values_of vs)) null)
index_of (array vs) (object ms) = slice_of_array (values_of vs) (start_in ms) (end_in ms)
index_of (string s) (object ms) = slice_of_string s (start_in ms) (end_in ms)
index_of v k = Err (string (cannot_index v (key_name k)))

-- the key of a slice with these bounds
abbrev pub slice_key : Value → Value → Value
slice_key start end = object (member (codes "end") end (member (codes "start") start no_members))

abbrev pub slice_of : Value → Value → Value → Result Value Value
slice_of v start end = index_of v (slice_key start end)
