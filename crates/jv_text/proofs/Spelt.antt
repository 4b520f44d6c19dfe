-- The tokens of a value, level by level.
use Rattle.std.proofs.Common.{◌≡◌, ◌∙◌, ℕ, List, [], ◌∷◌, String, Global, string_bytes, ap}
use Rattle.std.specs.Prelude.{encode_utf8_all}
use Rattle.std.proofs.lemmas.Str.{IsUtf8-string_bytes, encodes-chars}
use Rattle.json.specs.Token.{Token}
use Rattle.json.specs.Print.{print}
use Rattle.serde_json.proofs.Texts.{print-outline}
use Rattle.jv_data.proofs.shared.Levels.{view-Table, view-Text}
use Rattle.jv_data.proofs.shared.Views.{bytes_back}
use Rattle.jv_data.specs.Held.{members_in}
use Rattle.jv_data.specs.Shared.{bytes_in}
use Rattle.jv_data.specs.Value.{Value}
use Rattle.jv_data.specs.Text.{text_of}
use Rattle.jv_data.specs.View.{view}
use Rattle.jv_data.specs.declared.containers.objects.Object.{Object}
use Rattle.jv_data.specs.declared.containers.texts.SharedText.{SharedText}
use Rattle.jv_data.specs.declared.values.Val.{Val}
use Rattle.jv_data.specs.declared.values.Val as val
use Rattle.jv_text.specs.Json.{data_of}
use Rattle.jv_text.specs.Printed.{bytes_or, compact, tokens_of}
use Rattle.jv_text.specs.PrintedTokens.{tokens_of_members}

-- the bytes of a string are those of its characters
pub spelt : (s : String Global) → encode_utf8_all (text_of s) ≡ string_bytes s
spelt s = encodes-chars (string_bytes s) (IsUtf8-string_bytes s)

pub tokens_of-Text : (t : SharedText) → tokens_of (view (val.Text t)) ≡ Token.string (bytes_in t) ∷ []
tokens_of-Text t = ap tokens_of (view-Text t) ∙ ap (λ s. Token.string s ∷ []) (bytes_back t)

pub tokens_of-Table : (o : Object Val) → tokens_of (view (val.Table o)) ≡ Token.begin_object ∷ tokens_of_members (members_in o)
tokens_of-Table o = ap tokens_of (view-Table o)

pub bytes_or-Text : (other : List ℕ) (t : SharedText) → bytes_or other (view (val.Text t)) ≡ bytes_in t
bytes_or-Text other t = ap (bytes_or other) (view-Text t) ∙ bytes_back t

pub print-tokens_of : (v : Value) → print (tokens_of v) ≡ compact v
print-tokens_of v = print-outline (data_of v)
