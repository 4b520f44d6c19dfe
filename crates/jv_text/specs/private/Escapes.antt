-- Characters that a format escapes. For private contracts.
use Rattle.std.specs.Prelude.{◌≡◌, ℕ, List, [], ◌∷◌, Option, MatchOption}
use Rattle.std.specs.Borrow.{Bor}
use Rattle.std.specs.Str.{chars}
use Rattle.jv_text.specs.Formats.{csv_character, html_character, shell_character, tsv_character}
use Rattle.jv_text.specs.declared.formats.escapes.Escapes.{Escapes}
use Rattle.jv_text.specs.declared.formats.escapes.Escapes.TheVariants.{Csv, Tsv, Html, Sh}

-- the text that is written for a character
abbrev pub written_in : Escapes → ℕ → List ℕ
written_in Csv = csv_character
written_in Tsv = tsv_character
written_in Html = html_character
written_in Sh = shell_character

-- the written text is the escape, or without one the character itself
abbrev pub IsWritten : Option (Bor (List ℕ)) → ℕ → List ℕ → Type 0
IsWritten escape c written = MatchOption escape (written ≡ c ∷ []) (λ text. written ≡ chars text.now)
