-- The formats of strings (manual of jq 1.7, "Format strings and escaping").
use Rattle.std.specs.Prelude.{◌≡◌, ℕ, ◌/◌, ◌%◌, List, [], ◌∷◌, ◌++◌, codes, Bool, true, ◌&&◌, ◌||◌, ◌==◌, nat_le, bytes_eq, if◌then◌else◌, flat_map, encode_utf8_all, Option, Some, None, Result, Ok, Err, MatchResult, String}
use Rattle.std.specs.Fmt.{digit_glyph}
use Rattle.std.specs.declared.alloc.Global.{Global}
use Rattle.base64.specs.Rfc4648.{encode}
use Rattle.jv_data.specs.Fails.{FailsAs, raised_kind}
use Rattle.jv_data.specs.Value.{Value, null, string, array, object, Items, no_items, item}
use Rattle.jv_data.specs.Text.{text_of}
use Rattle.jv_data.specs.declared.failures.Fail.{Fail}
use Rattle.jv_text.specs.Printed.{json_text, text_of_value}
use Rattle.jv_text.specs.declared.formats.names.Format.{Format}
use Rattle.jv_text.specs.declared.formats.names.Format.TheVariants.{Plain, Json, Csv, Tsv, Html, Uri, Sh, Base64}

-- a text, or the error that is raised instead
abbrev pub Text : Type 0
Text = Result (List ℕ) Value

-- ---- @html

abbrev pub html_character : ℕ → List ℕ
html_character c =
    if c == 60 then codes "&lt;" else
    if c == 62 then codes "&gt;" else
    if c == 38 then codes "&amp;" else
    if c == 39 then codes "&#39;" else
    if c == 34 then codes "&quot;" else c ∷ []

-- ---- @uri

-- a byte that is not percent-encoded (RFC 3986, section 2.3)
abbrev pub is_unreserved : ℕ → Bool
is_unreserved b = (nat_le 65 b && nat_le b 90) || (nat_le 97 b && nat_le b 122) || (nat_le 48 b && nat_le b 57) || b == 45 || b == 95 || b == 46 || b == 126

-- `%` and two upper-case hexadecimal digits (RFC 3986, section 2.1)
abbrev pub percent_byte : ℕ → List ℕ
percent_byte b = 37 ∷ digit_glyph true (b / 16) ∷ digit_glyph true (b % 16) ∷ []

abbrev pub uri_byte : ℕ → List ℕ
uri_byte b = if is_unreserved b then b ∷ [] else percent_byte b

-- ---- @base64

-- the 64 symbols, and the symbol of padding (RFC 4648, section 4)
abbrev pub base64_symbols : List ℕ
base64_symbols = codes "ABCDEFGHIJKLMNOPQRSTUVWXYZabcdefghijklmnopqrstuvwxyz0123456789+/"

abbrev pub base64_text : List ℕ → List ℕ
base64_text bytes = encode base64_symbols 61 true bytes

-- ---- @csv and @tsv

abbrev pub csv_quote : List ℕ
csv_quote = codes "\""

-- a double quote is written twice
abbrev pub csv_character : ℕ → List ℕ
csv_character c = if c == 34 then codes "\"\"" else c ∷ []

-- why an array or an object is no field
abbrev pub no_csv_field : List ℕ
no_csv_field = codes " is not valid in a csv row"

abbrev pub csv_field : Value → Text
csv_field null = Ok []
csv_field (string s) = Ok (csv_quote ++ (flat_map csv_character s ++ csv_quote))
csv_field (array vs) = raised_kind (array vs) no_csv_field
csv_field (object ms) = raised_kind (object ms) no_csv_field
csv_field v = Ok (json_text v)

abbrev pub tsv_character : ℕ → List ℕ
tsv_character c =
    if c == 10 then codes "\\n" else
    if c == 13 then codes "\\r" else
    if c == 9 then codes "\\t" else
    if c == 92 then codes "\\\\" else c ∷ []

abbrev pub no_tsv_field : List ℕ
no_tsv_field = codes " is not valid in a tsv row"

abbrev pub tsv_field : Value → Text
tsv_field null = Ok []
tsv_field (string s) = Ok (flat_map tsv_character s)
tsv_field (array vs) = raised_kind (array vs) no_tsv_field
tsv_field (object ms) = raised_kind (object ms) no_tsv_field
tsv_field v = Ok (json_text v)

-- ---- @sh

abbrev pub shell_quote : List ℕ
shell_quote = codes "'"

-- a single quote is written as an end of the quoted text, an escaped quote, and a new start of the quoted text
abbrev pub shell_character : ℕ → List ℕ
shell_character c = if c == 39 then codes "'\\''" else c ∷ []

abbrev pub no_shell_word : List ℕ
no_shell_word = codes " can not be escaped for shell"

abbrev pub shell_word : Value → Text
shell_word (string s) = Ok (shell_quote ++ (flat_map shell_character s ++ shell_quote))
shell_word (array vs) = raised_kind (array vs) no_shell_word
shell_word (object ms) = raised_kind (object ms) no_shell_word
shell_word v = Ok (json_text v)

-- ---- separators between fields

-- the first error of two texts, or both texts with the separator between them
abbrev pub joined : List ℕ → Text → Text → Text
joined between (Err e) t = Err e
joined between (Ok s) (Err e) = Err e
joined between (Ok s) (Ok t) = Ok (s ++ (between ++ t))

abbrev pub fields : (Value → Text) → List ℕ → Items → Text
fields field between no_items = Ok []
fields field between (item v no_items) = field v
fields field between (item v (item w vs)) = joined between (field v) (fields field between (item w vs))

abbrev pub csv_separator : List ℕ
csv_separator = codes ","

abbrev pub csv_of : Value → Text
csv_of (array vs) = fields csv_field csv_separator vs
csv_of v = raised_kind v (codes " cannot be csv-formatted, only an array can be")

abbrev pub tsv_separator : List ℕ
tsv_separator = 9 ∷ []

abbrev pub tsv_of : Value → Text
tsv_of (array vs) = fields tsv_field tsv_separator vs
tsv_of v = raised_kind v (codes " cannot be tsv-formatted, only an array can be")

abbrev pub shell_separator : List ℕ
shell_separator = codes " "

abbrev pub sh_of : Value → Text
sh_of (array vs) = fields shell_word shell_separator vs
sh_of v = shell_word v

-- ---- all of them

-- a value's text in a format
abbrev pub text_in : Format → Value → Text
text_in Plain v = Ok (text_of_value v)
text_in Json v = Ok (json_text v)
text_in Csv v = csv_of v
text_in Tsv v = tsv_of v
text_in Html v = Ok (flat_map html_character (text_of_value v))
text_in Uri v = Ok (flat_map uri_byte (encode_utf8_all (text_of_value v)))
text_in Sh v = sh_of v
text_in Base64 v = Ok (base64_text (encode_utf8_all (text_of_value v)))

-- a call returns this text, or raises this error, or memory ran out
abbrev pub GivesText : Result (String Global) Fail → Text → Type 0
GivesText result expected = MatchResult result (λ text. expected ≡ Ok (text_of text)) (λ f. FailsAs f expected)

-- the format of `@name`
abbrev pub format_named : List ℕ → Option Format
format_named name =
    if bytes_eq name (codes "text") then Some Plain else
    if bytes_eq name (codes "json") then Some Json else
    if bytes_eq name (codes "csv") then Some Csv else
    if bytes_eq name (codes "tsv") then Some Tsv else
    if bytes_eq name (codes "html") then Some Html else
    if bytes_eq name (codes "uri") then Some Uri else
    if bytes_eq name (codes "sh") then Some Sh else
    if bytes_eq name (codes "base64") then Some Base64 else None
