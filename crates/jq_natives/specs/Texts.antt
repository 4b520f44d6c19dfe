-- Natives on strings (manual of jq 1.7, "tostring", "tonumber", "tojson, fromjson", "explode", "implode", "split/1",
-- "startswith(str)", "endswith(str)", "ltrimstr(str)", "rtrimstr(str)", "ascii_downcase, ascii_upcase").
use Rattle.std.specs.Prelude.{ℕ, ◌+◌, ◌-◌, pos, List, [], ◌∷◌, length, take, drop, map, codes, Bool, ◌&&◌, ◌||◌, nat_eq, nat_le, nat_lt, if◌then◌else◌, Option, Some, None, option_map, Ok}
use Rattle.std.specs.Option.{option_map_or}
use Rattle.std.specs.List.{starts_with, ends_with}
use Rattle.jv_data.specs.Fails.{raised, raised_kind}
use Rattle.jv_data.specs.Value.{Value, number, string, array, Items, no_items, item, items_of}
use Rattle.jq_natives.specs.Answers.{Answer, yes_or_no, counts}
use Rattle.jv_arith.specs.Strings.{split_of}
use Rattle.jv_text.specs.Printed.{json_text, text_of_value}
use Rattle.jq_natives.specs.declared.native.Native.TheVariants as native
use Rattle.jq_natives.specs.Entries.{NativeEntry, without_arguments, with_one}

abbrev pub tostring_of : Value → Answer
tostring_of v = Ok (string (text_of_value v))

abbrev pub tojson_of : Value → Answer
tojson_of v = Ok (string (json_text v))

-- the string's code points as numbers
abbrev pub explode_of : Value → Answer
explode_of (string s) = Ok (counts s)
explode_of v = raised_kind v (codes " cannot be exploded")

-- a number up to 0x10FFFF that is not half of a surrogate pair (the scalar values of Unicode)
abbrev pub is_code_point : ℕ → Bool
is_code_point c = nat_lt c 0xD800 || (nat_le 0xE000 c && nat_lt c 0x11_0000)

-- the items as code points, if each of them is one
abbrev pub code_points : Items → Option (List ℕ)
code_points no_items = Some []
code_points (item (number (pos c)) vs) = if is_code_point c then option_map (λ cs. c ∷ cs) (code_points vs) else None
code_points (item v vs) = None

abbrev pub implode_error : Answer
implode_error = raised (codes "implode needs an array of code points")

abbrev pub implode_of : Value → Answer
implode_of (array vs) = option_map_or (λ s. Ok (string s)) (code_points vs) implode_error
implode_of v = implode_error

abbrev pub split_native_of : Value → Value → Answer
split_native_of (string s) (string separator) = Ok (array (items_of (map string (split_of s separator))))
split_native_of v separator = raised (codes "split input and separator must be strings")

abbrev pub startswith_of : Value → Value → Answer
startswith_of (string s) (string part) = yes_or_no (starts_with nat_eq s part)
startswith_of v part = raised (codes "startswith() requires string inputs")

abbrev pub endswith_of : Value → Value → Answer
endswith_of (string s) (string part) = yes_or_no (ends_with nat_eq s part)
endswith_of v part = raised (codes "endswith() requires string inputs")

-- the string without that prefix; any other input is unchanged
abbrev pub ltrimstr_of : Value → Value → Answer
ltrimstr_of (string s) (string part) = Ok (string (if starts_with nat_eq s part then drop (length part) s else s))
ltrimstr_of v part = Ok v

-- the string without that suffix; any other input is unchanged
abbrev pub rtrimstr_of : Value → Value → Answer
rtrimstr_of (string s) (string part) = Ok (string (if ends_with nat_eq s part then take (length s - length part) s else s))
rtrimstr_of v part = Ok v

-- A to Z as a to z
abbrev pub ascii_lower : ℕ → ℕ
ascii_lower c = if nat_le 65 c && nat_le c 90 then c + 32 else c

-- a to z as A to Z
abbrev pub ascii_upper : ℕ → ℕ
ascii_upper c = if nat_le 97 c && nat_le c 122 then c - 32 else c

abbrev pub ascii_downcase_of : Value → Answer
ascii_downcase_of (string s) = Ok (string (map ascii_lower s))
ascii_downcase_of v = raised (codes "ascii_downcase input must be a string")

abbrev pub ascii_upcase_of : Value → Answer
ascii_upcase_of (string s) = Ok (string (map ascii_upper s))
ascii_upcase_of v = raised (codes "ascii_upcase input must be a string")

-- the natives of strings
abbrev pub text_natives : List NativeEntry
text_natives =
    without_arguments (codes "tostring") native.ToString tostring_of
    ∷ without_arguments (codes "tojson") native.ToJson tojson_of
    ∷ without_arguments (codes "explode") native.Explode explode_of
    ∷ without_arguments (codes "implode") native.Implode implode_of
    ∷ with_one (codes "split") native.Split split_native_of
    ∷ with_one (codes "startswith") native.StartsWith startswith_of
    ∷ with_one (codes "endswith") native.EndsWith endswith_of
    ∷ with_one (codes "ltrimstr") native.TrimStart ltrimstr_of
    ∷ with_one (codes "rtrimstr") native.TrimEnd rtrimstr_of
    ∷ without_arguments (codes "ascii_downcase") native.AsciiDowncase ascii_downcase_of
    ∷ without_arguments (codes "ascii_upcase") native.AsciiUpcase ascii_upcase_of
    ∷ []
