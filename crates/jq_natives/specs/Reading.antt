-- Numbers and values read from strings (manual of jq 1.7, "tonumber", "tojson, fromjson").
use Rattle.std.specs.Prelude.{ℕ, List, [], ◌∷◌, ◌++◌, length, codes, true, Result, Ok, Err, encode_utf8_all}
use Rattle.std.specs.Option.{option_map_or}
use Rattle.jv_data.specs.Fails.{raised, raised_kind}
use Rattle.jv_data.specs.Value.{Value, number, string}
use Rattle.jq_natives.specs.Answers.{Answer}
use Rattle.jv_text.specs.FaultWords.{fault_words}
use Rattle.jv_number.specs.Number.{number_value}
use Rattle.jv_text.specs.Reading.{text_of_cut}
use Rattle.jv_text.specs.declared.faults.Fault.{Fault}
use Rattle.jv_cut.specs.Cut.{cut_from}
use Rattle.jq_natives.specs.declared.native.Native.TheVariants as native
use Rattle.jq_natives.specs.Entries.{NativeEntry, without_arguments}

abbrev pub not_a_number : Value → Answer
not_a_number v = raised_kind v (codes " cannot be parsed as a number")

-- a number itself; a string with the text of a number, as that number
abbrev pub tonumber_of : Value → Answer
tonumber_of (number n) = Ok (number n)
tonumber_of (string s) = option_map_or (λ n. Ok (number n)) (number_value (encode_utf8_all s)) (not_a_number (string s))
tonumber_of v = not_a_number v

-- the error that says why a text cannot be read
abbrev pub unreadable : List ℕ → Answer
unreadable why = raised (codes "fromjson: " ++ why)

abbrev pub read_answer : Result Value Fault → Answer
read_answer (Ok v) = Ok v
read_answer (Err f) = unreadable (fault_words f)

-- the value of the bytes if they are one JSON text (no byte order mark is skipped), or why they are not
abbrev pub value_read : List ℕ → Answer
value_read bytes = read_answer (text_of_cut (length bytes) (cut_from 0 true 0 bytes))

-- the value of a string that is a JSON text
abbrev pub fromjson_of : Value → Answer
fromjson_of (string s) = value_read (encode_utf8_all s)
fromjson_of v = raised_kind v (codes " cannot be parsed as JSON")

-- the natives that read a string
abbrev pub reading_natives : List NativeEntry
reading_natives =
    without_arguments (codes "tonumber") native.ToNumber tonumber_of
    ∷ without_arguments (codes "fromjson") native.FromJson fromjson_of
    ∷ []
