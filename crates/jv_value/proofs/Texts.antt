-- Texts by their bytes and by their code points.
use Rattle.std.proofs.Common.{◌≡◌, ◌∙◌, ℕ, List, String, Global, string_bytes, Result, Ok, Err, IfOk, Decides, ap, sym}
use Rattle.std.proofs.lemmas.Bool.Decides.{same_from_decides}
use Rattle.std.proofs.lemmas.Slice.Eq.{bytes_eq-Decides}
use Rattle.std.proofs.lemmas.Str.{encodes-chars, IsUtf8-string_bytes}
use Rattle.std.specs.Ordering.{is_eq}
use Rattle.std.specs.Str.{bytes_eq, chars}
use lib.Utf8.{encodes}
use Rattle.jv_data.proofs.shared.Order.{equal_from, tied_text}
use Rattle.jv_data.specs.Value.{text_cmp}
use Rattle.jv_data.specs.Text.{text_of}
use Rattle.jv_data.proofs.shared.Texts.{text_is}
use Rattle.jv_value.proofs.Following.{text_itself}

same_bytes : (s t : String Global) → text_of s ≡ text_of t → string_bytes t ≡ string_bytes s
same_bytes s t e = sym (encodes-chars (string_bytes t) (IsUtf8-string_bytes t)) ∙ ap encodes (sym e) ∙ encodes-chars (string_bytes s) (IsUtf8-string_bytes s)

text_Decides : (s t : String Global) → Decides (is_eq (text_cmp (text_of s) (text_of t))) (string_bytes t ≡ string_bytes s)
text_Decides s t = (
  λ e. same_bytes s t (tied_text (text_of s) (text_of t) (equal_from (text_cmp (text_of s) (text_of t)) e)),
  λ e. ap (λ bs. is_eq (text_cmp (text_of s) (chars bs))) e ∙ text_itself (text_of s),
)

pub same_texts : (s t : String Global) → bytes_eq (string_bytes t) (string_bytes s) ≡ is_eq (text_cmp (text_of s) (text_of t))
same_texts s t = same_from_decides _ _ (bytes_eq-Decides (string_bytes t) (string_bytes s)) (text_Decides s t)

-- a text that was spelt out
pub spelt_text : {E : Type 0} (r : Result (String Global) E) (cs : List ℕ) → IfOk r (λ w. string_bytes w ≡ encodes cs) → IfOk r (λ w. text_of w ≡ cs)
spelt_text (Ok w) cs h = text_is w cs h
spelt_text (Err e) cs h = h
