-- Laws of `text_end`, not used to define it: the end of an array, an object or a string that a stream begins with, by the
-- prefixes of the stream (RFC 8259, sections 2, 5 and 7).
use Rattle.std.specs.Prelude.{◌≡◌, ℕ, ◌-◌, ◌<◌, ◌≤◌, List, [], ◌∷◌, length, take, Bool, true, false, ◌==◌, ◌&&◌, if◌then◌else◌}
use Rattle.std.specs.List.{filter}
use Rattle.jv_cut.specs.Bytes.{opens, closes}
use Rattle.jv_cut.specs.Text.{max_text, max_nesting, next_quote, is_outside}
use Rattle.jv_cut.specs.declared.nesting.Quote.{Quote}
use Rattle.jv_cut.specs.declared.nesting.Quote.TheVariants.{Outside}

-- whether the byte after these is outside strings, in a string or escaped
abbrev pub quote_after : Quote → List ℕ → Quote
quote_after quote [] = quote
quote_after quote (x ∷ xs) = quote_after (next_quote quote x) xs

abbrev pub outside_from : Quote → List ℕ → List ℕ
outside_from quote [] = []
outside_from quote (x ∷ xs) = if is_outside quote then x ∷ outside_from (next_quote quote x) xs else outside_from (next_quote quote x) xs

-- the bytes outside strings
abbrev pub outside_strings : List ℕ → List ℕ
outside_strings front = outside_from Outside front

-- how many brackets open there
abbrev pub count_opens : List ℕ → ℕ
count_opens front = length (filter opens (outside_strings front))

-- and how many close
abbrev pub count_closes : List ℕ → ℕ
count_closes front = length (filter closes (outside_strings front))

-- no string is open, and the closing brackets are as many as the opening ones
abbrev pub is_closed : List ℕ → Bool
is_closed front = (count_opens front == count_closes front) && is_outside (quote_after Outside front)

abbrev pub open_brackets : List ℕ → ℕ
open_brackets front = count_opens front - count_closes front

-- the text goes on after its first k bytes
pub record GoesOn (bytes : List ℕ) (k : ℕ) : Type 0 where
  pub unclosed : is_closed (take k bytes) ≡ false
  pub shallow : open_brackets (take k bytes) ≤ max_nesting

-- The first n bytes are the text: the shortest prefix that is closed.
pub record IsShortest (bytes : List ℕ) (n : ℕ) : Type 0 where
  pub some : 0 < n
  pub within : n ≤ length bytes
  pub short : n ≤ max_text
  pub closed : is_closed (take n bytes) ≡ true
  pub before : (k : ℕ) → 0 < k → k < n → GoesOn bytes k

-- All bytes leave the text open.
pub record IsOpen (bytes : List ℕ) : Type 0 where
  pub short : length bytes ≤ max_text
  pub unclosed : (k : ℕ) → 0 < k → k ≤ length bytes → GoesOn bytes k

-- Some prefix has 128 open brackets, and no shorter prefix is closed.
pub record IsTooDeep (bytes : List ℕ) : Type 0 where
  pub count : ℕ
  pub some : 0 < count
  pub within : count ≤ length bytes
  pub short : count ≤ max_text
  pub deep : max_nesting < open_brackets (take count bytes)
  pub unclosed : (k : ℕ) → 0 < k → k ≤ count → is_closed (take k bytes) ≡ false

-- The text is open after the greatest length of a text, and more bytes follow.
pub record IsTooLong (bytes : List ℕ) : Type 0 where
  pub long : max_text < length bytes
  pub unclosed : (k : ℕ) → 0 < k → k ≤ max_text → GoesOn bytes k
