-- Texts whose bytes are their code points.
use Rattle.std.proofs.Common.{◌≡◌, ◌∙◌, ℕ, List, ◌++◌, codes, refl, ap, append_assoc}
use Rattle.std.proofs.lemmas.Str.{IsUtf8-append, chars-append}
use Rattle.std.specs.Str.{chars, IsUtf8}

pub text-no_path : chars (codes "Invalid path expression") ≡ codes "Invalid path expression"
unfolding chars
text-no_path = refl

pub text-no_key : chars (codes "Object keys must be strings") ≡ codes "Object keys must be strings"
unfolding chars
text-no_key = refl

pub text-not_numeric : chars (codes "Range bounds must be numeric") ≡ codes "Range bounds must be numeric"
unfolding chars
text-not_numeric = refl

pub text-no_step : chars (codes "Range step is 0") ≡ codes "Range step is 0"
unfolding chars
text-no_step = refl

pub text-no_exit_code : chars (codes "exit code must be a number from 0 to 255") ≡ codes "exit code must be a number from 0 to 255"
unfolding chars
text-no_exit_code = refl

-- three texts in a row
pub chars-between : (a b d : List ℕ) → IsUtf8 a → IsUtf8 b → chars ((a ++ b) ++ d) ≡ chars a ++ (chars b ++ chars d)
chars-between a b d u v = chars-append (a ++ b) d (IsUtf8-append a b u v) ∙ ap (λ t. t ++ chars d) (chars-append a b u) ∙ append_assoc (chars a) (chars b) (chars d)
