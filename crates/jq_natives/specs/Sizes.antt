-- How large a value is, and which keys it has
-- (manual of jq 1.7, "length", "utf8bytelength", "keys, keys_unsorted", "has(key)").
use Rattle.std.specs.Prelude.{List, [], ◌∷◌, pos, length, codes, nat_abs, int_le, int_lt, ◌&&◌, Ok, is_some, encode_utf8_all}
use Rattle.jv_data.specs.Fails.{raised, raised_kind}
use Rattle.jv_data.specs.Members.{member_at}
use Rattle.jv_data.specs.Value.{Value, null, boolean, number, string, array, object, values_of, items_of, keys}
use Rattle.jq_natives.specs.Answers.{Answer, yes_or_no, count, part_keys}
use Rattle.jv_arith.specs.Numbers.{in_range}
use Rattle.jq_natives.specs.Errors.{cannot_check}
use Rattle.jq_natives.specs.declared.native.Native.TheVariants as native
use Rattle.jq_natives.specs.Entries.{NativeEntry, without_arguments, with_one}

-- null has length 0, a number its absolute value; else the number of code points, items or pairs
abbrev pub length_of : Value → Answer
length_of null = Ok (count 0)
length_of (boolean b) = raised (codes "boolean has no length")
length_of (number n) = in_range (pos (nat_abs n))
length_of (string s) = Ok (count (length s))
length_of (array vs) = Ok (count (length (values_of vs)))
length_of (object ms) = Ok (count (length (keys ms)))

-- the number of bytes of a string in UTF-8
abbrev pub utf8bytelength_of : Value → Answer
utf8bytelength_of (string s) = Ok (count (length (encode_utf8_all s)))
utf8bytelength_of v = raised_kind v (codes " has no UTF-8 length")

-- an object's keys in order, or an array's indices
abbrev pub keys_of : Value → Answer
keys_of (object ms) = Ok (array (items_of (part_keys (object ms))))
keys_of (array vs) = Ok (array (items_of (part_keys (array vs))))
keys_of v = raised_kind v (codes " has no keys")

-- whether the key or the index exists
abbrev pub has_of : Value → Value → Answer
has_of (object ms) (string k) = yes_or_no (is_some (member_at k ms))
has_of (array vs) (number n) = yes_or_no (int_le (pos 0) n && int_lt n (pos (length (values_of vs))))
has_of v k = raised (cannot_check v k)

-- the natives of sizes and keys
abbrev pub size_natives : List NativeEntry
size_natives =
    without_arguments (codes "length") native.Length length_of
    ∷ without_arguments (codes "utf8bytelength") native.Utf8ByteLength utf8bytelength_of
    ∷ without_arguments (codes "keys") native.Keys keys_of
    ∷ without_arguments (codes "keys_unsorted") native.KeysUnsorted keys_of
    ∷ with_one (codes "has") native.Has has_of
    ∷ []
