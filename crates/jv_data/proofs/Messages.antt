-- The texts of errors, from their parts, which are ASCII.
use Rattle.std.proofs.Common.{◌≡◌, ◌∙◌, ℕ, List, ◌++◌, true, ap, append_assoc}
use Rattle.std.specs.Char.{is_ascii}
use Rattle.std.specs.List.{list_all}
use Rattle.std.specs.Str.{chars}
use Rattle.jv_data.proofs.shared.Ascii.{ascii_chars, both_ascii}

abbrev IsPlain : List ℕ → Type 0
IsPlain bs = list_all is_ascii bs ≡ true

pub three_chars : (a b c : List ℕ) → IsPlain a → IsPlain b → IsPlain c → chars ((a ++ b) ++ c) ≡ a ++ (b ++ c)
three_chars a b c f g h = ap chars (append_assoc a b c) ∙ ascii_chars _ (both_ascii a (b ++ c) f (both_ascii b c g h))

pub five_chars : (a b c d e : List ℕ) → IsPlain a → IsPlain b → IsPlain c → IsPlain d → IsPlain e → chars ((((a ++ b) ++ c) ++ d) ++ e) ≡ a ++ (b ++ (c ++ (d ++ e)))
five_chars a b c d e f g h i j =
    ap chars (append_assoc ((a ++ b) ++ c) d e ∙ append_assoc (a ++ b) c (d ++ e) ∙ append_assoc a b (c ++ (d ++ e)))
    ∙ ascii_chars _ (both_ascii a _ f (both_ascii b _ g (both_ascii c _ h (both_ascii d e i j))))
