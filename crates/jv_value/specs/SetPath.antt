-- A value with another at a path (manual of jq 1.7, "setpath(PATHS; VALUE)").
use Rattle.std.specs.Prelude.{ℕ, ℤ, pos, negsuc, ◌+◌, ◌-◌, nat_lt, List, [], ◌∷◌, ◌++◌, length, take, drop, replicate, slice_set, if◌then◌else◌, option_map, Result, Ok, Err, ok_or}
use Rattle.std.specs.Option.{option_map_or}
use Rattle.jv_data.specs.Members.{put, without}
use Rattle.jv_data.specs.Value.{Value, null, number, string, array, object, items_of, values_of, no_members}
use Rattle.jv_value.specs.ErrorTexts.{cannot_index, key_name, not_slice_bounds, index_too_large, index_before_start, slice_needs_array}
use Rattle.jv_value.specs.Index.{index_of, place_of, start_in, end_in}
use Rattle.jv_value.specs.Results.{and_then}
use Rattle.jv_value.specs.Slice.{range_of}

-- the greatest index at which an item can be put
abbrev pub greatest_index : ℕ
greatest_index = 16777215

-- at least n items, filled up with nulls at the end
abbrev pub filled : ℕ → List Value → List Value
filled n vs = vs ++ replicate (n - length vs) null

-- the array with p at an index, filled up with nulls before it; a negative index counts from the end
abbrev pub put_item : ℤ → Value → List Value → Result Value Value
put_item (pos i) p vs = if nat_lt greatest_index i then Err (string index_too_large) else Ok (array (items_of (slice_set (filled (i + 1) vs) i p)))
put_item (negsuc i) p vs = option_map_or (λ j. Ok (array (items_of (slice_set vs j p)))) (place_of (length vs) (negsuc i)) (Err (string index_before_start))

-- the array of the first items, the items of another array, and the last items
abbrev pub put_between : List Value → Value → List Value → Result Value Value
put_between front (array ws) back = Ok (array (items_of (front ++ (values_of ws ++ back))))
put_between front p back = Err (string slice_needs_array)

-- the array with a slice replaced by the items of another
abbrev pub put_slice : Value → Value → Value → List Value → Result Value Value
put_slice start end p vs = option_map_or (λ r. put_between (take r.0 vs) p (drop r.1 vs)) (range_of (length vs) start end) (Err (string not_slice_bounds))

-- the value with p at a key; null becomes an empty object or an empty array first, as the key requires
abbrev pub put_at : Value → Value → Value → Result Value Value
put_at null (string s) p = Ok (object (put s p no_members))
put_at (object ms) (string s) p = Ok (object (put s p (without s ms)))
put_at null (number n) p = put_item n p []
put_at (array vs) (number n) p = put_item n p (values_of vs)
put_at null (object b) p = put_slice (start_in b) (end_in b) p []
put_at (array vs) (object b) p = put_slice (start_in b) (end_in b) p (values_of vs)
put_at v k p = Err (string (cannot_index v (key_name k)))

-- the part that the rest of a path applies to: the one at the key; a slice of null must have valid bounds too
abbrev pub part_at : Value → Value → Result Value Value
part_at null (object b) = ok_or (option_map (λ r. null) (range_of 0 (start_in b) (end_in b))) (string not_slice_bounds)
part_at v k = index_of v k

-- x at the path: the part at the first key, x set in it at the rest of the path, and the result put at that key
abbrev pub setpath_of : Value → List Value → Value → Result Value Value
setpath_of v [] x = Ok x
setpath_of v (k ∷ ks) x = and_then (part_at v k) (λ part. and_then (setpath_of part ks x) (λ p. put_at v k p))
