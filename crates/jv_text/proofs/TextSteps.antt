-- Texts that are written one after the other.
use Rattle.std.proofs.Common.{◌≡◌, ◌∙◌, ℕ, List, ◌++◌, ap, String, Global, string_bytes}
use Rattle.std.proofs.lemmas.Str.{chars-append, IsUtf8-string_bytes}
use Rattle.std.specs.Str.{chars}
use Rattle.jv_data.specs.Text.{text_of}

-- a text was written
pub text_written : (s t : String Global) (bs : List ℕ) → string_bytes t ≡ string_bytes s ++ bs → text_of t ≡ text_of s ++ chars bs
text_written s t bs e = ap chars e ∙ chars-append (string_bytes s) bs (IsUtf8-string_bytes s)
