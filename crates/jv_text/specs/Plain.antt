-- Reading a text whose numbers are written as whole numbers of 64 bits.
use Rattle.std.specs.Prelude.{ℕ, List, Option, None, option_and_then, if◌then◌else◌}
use Rattle.std.specs.Str.{is_utf8}
use Rattle.serde_json.specs.Read.{read}
use Rattle.jv_data.specs.Value.{Value}
use Rattle.jv_text.specs.Json.{value_of}

-- the value that `serde_json` reads from the text, if it is UTF-8 and each number is a whole number of 64 bits
unfoldable pub plain_value : List ℕ → Option Value
plain_value text = if is_utf8 text then option_and_then value_of (read text) else None
