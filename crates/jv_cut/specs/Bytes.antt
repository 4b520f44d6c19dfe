-- The bytes that structure a stream of JSON texts (RFC 8259, section 2).
use Rattle.std.specs.Prelude.{ℕ, List, ◌∷◌, Bool, false, not, ◌==◌, ◌||◌, ◌&&◌}

-- space, tab, line feed and carriage return
abbrev pub is_space : ℕ → Bool
is_space x = (x == 32) || (x == 9) || (x == 10) || (x == 13)

abbrev pub is_quote : ℕ → Bool
is_quote x = x == 34

abbrev pub is_backslash : ℕ → Bool
is_backslash x = x == 92

-- `{` and `[`
abbrev pub opens : ℕ → Bool
opens x = (x == 123) || (x == 91)

-- `}` and `]`
abbrev pub closes : ℕ → Bool
closes x = (x == 125) || (x == 93)

-- a byte of a text that is no array, object or string: none of white space, `{ } [ ] , : "`
abbrev pub is_bare : ℕ → Bool
is_bare x = not (is_space x || opens x || closes x || (x == 44) || (x == 58) || is_quote x)

-- U+FEFF in UTF-8, the byte order mark
abbrev pub begins_with_mark : List ℕ → Bool
begins_with_mark (a ∷ b ∷ c ∷ rest) = (a == 239) && (b == 187) && (c == 191)
begins_with_mark bytes = false
