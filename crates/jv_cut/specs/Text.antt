-- Where a text of a stream ends. An array, an object or a string ends with the first byte after which no bracket and no
-- string is open; any other text is the longest run of bytes that are none of white space, `{ } [ ] , : "`.
use Rattle.std.specs.Prelude.{ℕ, ◌+◌, ◌-◌, List, [], ◌∷◌, Bool, true, false, ◌==◌, ◌||◌, ◌&&◌, nat_le, nat_lt, if◌then◌else◌}
use Rattle.jv_cut.specs.Bytes.{is_quote, is_backslash, opens, closes, is_bare}
use Rattle.jv_cut.specs.declared.nesting.Quote.{Quote}
use Rattle.jv_cut.specs.declared.nesting.Quote.TheVariants.{Outside, Inside, Escaped}
use Rattle.jv_cut.specs.declared.nesting.Nest.{Nest}

-- the greatest length of a text, in bytes
abbrev pub max_text : ℕ
max_text = 67108864

-- how many brackets may be open at once
abbrev pub max_nesting : ℕ
max_nesting = 127

-- before the first byte
abbrev pub level : Nest
level = record { depth = 0; quote = Outside }

-- the number of open brackets after one more byte outside strings
abbrev pub counted : ℕ → ℕ → ℕ
counted depth x = if opens x then depth + 1 else (if closes x then depth - 1 else depth)

-- whether the next byte is outside strings, in a string or escaped: in a string a backslash escapes the next byte
abbrev pub next_quote : Quote → ℕ → Quote
next_quote Outside x = if is_quote x then Inside else Outside
next_quote Inside x = if is_quote x then Outside else (if is_backslash x then Escaped else Inside)
next_quote Escaped x = Inside

abbrev pub is_outside : Quote → Bool
is_outside Outside = true
is_outside Inside = false
is_outside Escaped = false

-- The nesting state after one more byte. Only brackets outside strings count.
abbrev pub after_byte : Nest → ℕ → Nest
after_byte nest x = record { depth = if is_outside nest.quote then counted nest.depth x else nest.depth; quote = next_quote nest.quote x }

-- no bracket and no string is open
abbrev pub is_level : Nest → Bool
is_level nest = (nest.depth == 0) && is_outside nest.quote

-- the end of the text that a stream begins with
pub data End : Type 0 where
  -- the text has this many bytes
  ends : ℕ → End
  -- the stream may end inside the text
  unended : End
  too_deep : End
  too_long : End
  -- no text begins with this byte
  misplaced : End

-- n bytes of an array, an object or a string were read, with this nesting state after them
unfoldable pub nested : ℕ → Nest → List ℕ → End
nested n nest [] = unended
nested n nest (x ∷ xs) =
    if nat_le max_text n then too_long
    else (if is_level (after_byte nest x) then ends (n + 1)
    else (if nat_lt max_nesting (after_byte nest x).depth then too_deep else nested (n + 1) (after_byte nest x) xs))

-- n bytes of another text were read; if the stream has ended, so has the text
unfoldable pub bare : ℕ → Bool → List ℕ → End
bare n ended [] = if ended then ends n else unended
bare n ended (x ∷ xs) = if is_bare x then (if nat_le max_text n then too_long else bare (n + 1) ended xs) else ends n

-- the text that begins with the first byte
unfoldable pub text_end : Bool → List ℕ → End
text_end ended [] = unended
text_end ended (x ∷ xs) = if opens x || is_quote x then nested 0 level (x ∷ xs) else (if is_bare x then bare 0 ended (x ∷ xs) else misplaced)
