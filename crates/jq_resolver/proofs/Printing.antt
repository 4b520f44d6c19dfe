-- The bytes of a name that is printed.
use Rattle.std.proofs.Common.{◌≡◌, ◌∙◌, ◌^◌, ◌<◌, ℕ, List, ◌++◌, String, string_bytes, Global, codes, ap, refl}
use Rattle.std.specs.Fmt.{decimal}
use Rattle.std.proofs.lemmas.Fmt.{IsAscii-decimal}
use Rattle.std.proofs.lemmas.Str.{IsUtf8-string_bytes, encodes-IsAscii, encodes-append, encodes-chars}
use lib.Utf8.{encode, encodes}
use Rattle.jv_data.specs.Text.{text_of}

text_bytes : (x : String Global) → encodes (text_of x) ≡ string_bytes x
text_bytes x = encodes-chars (string_bytes x) (IsUtf8-string_bytes x)

-- a name after ASCII characters
after : (a : List ℕ) (x : String Global) → encodes a ≡ a → encodes (a ++ text_of x) ≡ a ++ string_bytes x
after a x e = encodes-append a (text_of x) ∙ ap (λ z. z ++ encodes (text_of x)) e ∙ ap (λ z. a ++ z) (text_bytes x)

pub variable_bytes : (x : String Global) → encodes (codes "$" ++ text_of x) ≡ codes "$" ++ string_bytes x
unfolding encode
variable_bytes x = after (codes "$") x refl

pub label_bytes : (x : String Global) → encodes (codes "break $" ++ text_of x) ≡ codes "break $" ++ string_bytes x
unfolding encode
label_bytes x = after (codes "break $") x refl

pub format_bytes : (x : String Global) → encodes (codes "@" ++ text_of x) ≡ codes "@" ++ string_bytes x
unfolding encode
format_bytes x = after (codes "@") x refl

pub function_bytes : (x : String Global) (arity : ℕ) → arity < 2 ^ 64 → encodes (text_of x ++ codes "/" ++ decimal arity) ≡ string_bytes x ++ codes "/" ++ decimal arity
unfolding encode
function_bytes x arity h =
    let slash : encodes (codes "/") ≡ codes "/" = refl in
    encodes-append (text_of x ++ codes "/") (decimal arity) ∙ ap (λ z. z ++ encodes (decimal arity)) (encodes-append (text_of x) (codes "/"))
    ∙ ap (λ z. z ++ encodes (codes "/") ++ encodes (decimal arity)) (text_bytes x) ∙ ap (λ z. string_bytes x ++ z ++ encodes (decimal arity)) slash
    ∙ ap (λ z. string_bytes x ++ codes "/" ++ z) (encodes-IsAscii (decimal arity) (IsAscii-decimal arity h))
