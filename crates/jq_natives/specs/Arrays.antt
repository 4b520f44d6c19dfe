-- Reversed, flattened and transposed arrays (manual of jq 1.7, "reverse", "flatten, flatten(depth)", "transpose").
use Rattle.std.specs.Prelude.{ℕ, suc, pos, negsuc, List, [], ◌∷◌, ◌++◌, length, map, max, reverse, slice_get, codes, unwrap_or, Ok}
use Rattle.std.specs.Option.{option_map_or}
use Rattle.std.specs.List.{range_with_len}
use Rattle.jv_data.specs.Fails.{raised, raised_kind}
use Rattle.jv_value.specs.ErrorTexts.{cannot_iterate}
use Rattle.jv_data.specs.Value.{Value, null, number, string, array, object, Items, no_items, item, Members, no_members, member, items_of, values_of}
use Rattle.jq_natives.specs.Answers.{Answer}
use Rattle.jq_natives.specs.Lists.{lists_of}
use Rattle.jq_natives.specs.declared.native.Native.TheVariants as native
use Rattle.jq_natives.specs.Entries.{NativeEntry, without_arguments, with_one}

-- the code points or the items from the last to the first
abbrev pub reverse_of : Value → Answer
reverse_of null = Ok (array no_items)
reverse_of (string s) = Ok (string (reverse s))
reverse_of (array vs) = Ok (array (items_of (reverse (values_of vs))))
reverse_of v = raised_kind v (codes " cannot be reversed")

-- the items, with the arrays among them flattened to a number of levels
abbrev pub opened : ℕ → Items → List Value
opened levels no_items = []
opened (suc levels) (item (array vs) rest) = opened levels vs ++ opened (suc levels) rest
opened levels (item v rest) = v ∷ opened levels rest

abbrev pub member_values : Members → Items
member_values no_members = no_items
member_values (member k v ms) = item v (member_values ms)

abbrev pub flattened : ℕ → Value → Answer
flattened levels (array vs) = Ok (array (items_of (opened levels vs)))
flattened levels (object ms) = Ok (array (items_of (opened levels (member_values ms))))
flattened levels v = raised (cannot_iterate v)

abbrev pub flatten_of : Value → Value → Answer
flatten_of v (number (pos levels)) = flattened levels v
flatten_of v (number (negsuc n)) = raised (codes "flatten depth must not be negative")
flatten_of v d = raised (codes "flatten depth must be a number")

abbrev pub longest : List (List Value) → ℕ
longest [] = 0
longest (r ∷ rs) = max (length r) (longest rs)

-- the item of each list at one index, or null after the end of the list
abbrev pub column : List (List Value) → ℕ → Value
column rs i = array (items_of (map (λ r. unwrap_or (slice_get r i) null) rs))

abbrev pub columns : List (List Value) → Value
columns rs = array (items_of (map (column rs) (range_with_len 0 (longest rs))))

abbrev pub transpose_error : Answer
transpose_error = raised (codes "transpose needs an array of arrays")

abbrev pub transpose_of : Value → Answer
transpose_of (array vs) = option_map_or (λ lists. Ok (columns lists)) (lists_of vs) transpose_error
transpose_of v = transpose_error

-- the natives of arrays
abbrev pub array_natives : List NativeEntry
array_natives =
    without_arguments (codes "reverse") native.Reverse reverse_of
    ∷ with_one (codes "flatten") native.Flatten flatten_of
    ∷ without_arguments (codes "transpose") native.Transpose transpose_of
    ∷ []
