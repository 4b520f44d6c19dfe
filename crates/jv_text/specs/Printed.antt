-- The bytes that are printed for a value.
use Rattle.std.specs.Prelude.{ℕ, List, [], ◌∷◌, ◌++◌, ◌||◌, if◌then◌else◌, encode_utf8_all}
use Rattle.std.specs.Str.{chars}
use Rattle.json.specs.Layout as layout
use Rattle.json.specs.Token.{Token}
use Rattle.json.specs.Tree.{json_tokens}
use Rattle.serde_json.specs.Written.{compact_text, outline}
use Rattle.jv_data.specs.Value.{Value, null, boolean, number, string, array, object}
use Rattle.jv_text.specs.Json.{data_of}
use Rattle.jv_text.specs.declared.printing.Style.{Style}

abbrev pub line_feed : ℕ
line_feed = 10

-- the tokens of a value's text
abbrev pub tokens_of : Value → List Token
tokens_of v = json_tokens (outline (data_of v))

-- the text of the value that `serde_json` prints without spaces
abbrev pub compact : Value → List ℕ
compact v = compact_text (data_of v)

-- the text of the value that `serde_json` prints with a line for each item and member, two spaces deeper for each bracket
abbrev pub pretty : Value → List ℕ
pretty v = layout.pretty (tokens_of v)

abbrev pub laid_out : Style → Value → List ℕ
laid_out style v = if style.compact then compact v else pretty v

-- the bytes of a string, or the text of another value
abbrev pub bytes_or : List ℕ → Value → List ℕ
bytes_or text (string s) = encode_utf8_all s
bytes_or text null = text
bytes_or text (boolean b) = text
bytes_or text (number z) = text
bytes_or text (array vs) = text
bytes_or text (object ms) = text

-- the compact text, but a string is its own bytes
abbrev pub raw : Value → List ℕ
raw v = bytes_or (compact v) v

-- the text of the value as code points
abbrev pub json_text : Value → List ℕ
json_text v = chars (compact v)

-- a string's own text, or another value's compact JSON text
abbrev pub text_of_value : Value → List ℕ
text_of_value (string s) = s
text_of_value v = json_text v

-- the value in a style: a string is its own bytes under jq's options `--raw-output` and `--join-output`
abbrev pub value_text : Style → Value → List ℕ
value_text style v = if style.raw || style.join then bytes_or (laid_out style v) v else laid_out style v

-- the same, with the newline after it
abbrev pub printed : Style → Value → List ℕ
printed style v = value_text style v ++ (if style.join then [] else line_feed ∷ [])
