-- Which texts are read as they are.
use Rattle.std.proofs.Common.{◌≡◌, ℕ, List, Bool, true, false, Option, Some, None, refl, ap, cond}
use Rattle.std.specs.Prelude.{option_and_then}
use Rattle.std.specs.Str.{is_utf8, IsUtf8}
use Rattle.std.proofs.lemmas.Str.{IsUtf8-from_is_utf8, is_utf8-from_IsUtf8}
use Rattle.serde_json.specs.Read.{read}
use Rattle.serde_json.specs.Data.{Data}
use Rattle.jv_data.specs.Value.{Value}
use Rattle.jv_text.specs.Json.{value_of}
use Rattle.jv_text.specs.Plain.{plain_value}

pub plain_of : (text : List ℕ) (d : Data) → IsUtf8 text → read text ≡ Some d → plain_value text ≡ value_of d
unfolding plain_value
plain_of text d utf8 e = rw (is_utf8-from_IsUtf8 text utf8) (ap (option_and_then value_of) e)

none_if : (b : Bool) (o : Option Value) → (b ≡ true → o ≡ None) → cond b o None ≡ None
none_if true o h = h refl
none_if false o h = refl

pub plain_none : (text : List ℕ) → (IsUtf8 text → read text ≡ None) → plain_value text ≡ None
unfolding plain_value
plain_none text h = none_if (is_utf8 text) (option_and_then value_of (read text)) (λ e. ap (option_and_then value_of) (h (IsUtf8-from_is_utf8 text e)))
