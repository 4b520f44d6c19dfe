-- A text in which each number is written as a whole number in decimal.
use Rattle.std.specs.Prelude.{ℕ, List, [], ◌∷◌, ◌++◌, Bool, ◌&&◌, if◌then◌else◌, Option, Some, option_map, option_and_then}
use Rattle.std.specs.Fmt.{signed_decimal}
use Rattle.std.specs.Str.{is_utf8}
use Rattle.jv_number.specs.Number.{is_number, number_value}
use Rattle.jv_cut.specs.Bytes.{is_bare}
use Rattle.jv_cut.specs.Text.{is_outside, next_quote}
use Rattle.jv_cut.specs.declared.nesting.Quote.{Quote}

-- The text of a run of bytes that are none of white space, `{ } [ ] , : "`: a number becomes its value in decimal, and None
-- if it has no value; any other run stays as it is.
abbrev pub run_text : List ℕ → Option (List ℕ)
run_text run = if is_utf8 run && is_number run then option_map signed_decimal (number_value run) else Some run

-- the text of a run, then the byte x, and then the rest
abbrev pub after_run : Option (List ℕ) → ℕ → Option (List ℕ) → Option (List ℕ)
after_run run x rest = option_and_then (λ r. option_map (λ t. r ++ x ∷ t) rest) run

-- whether the byte continues the run before it
abbrev pub is_in_run : Quote → ℕ → Bool
is_in_run quote x = is_outside quote && is_bare x

-- The bytes with each run outside strings replaced by its text. The bytes of `run` are the unfinished run before them.
unfoldable pub whole_numbers : Quote → List ℕ → List ℕ → Option (List ℕ)
whole_numbers quote run [] = run_text run
whole_numbers quote run (x ∷ xs) = if is_in_run quote x then whole_numbers quote (run ++ x ∷ []) xs else after_run (run_text run) x (whole_numbers (next_quote quote x) [] xs)
