-- The line that is being read.
use Rattle.std.specs.Prelude.{◌≡◌, ◌≢◌, ◌<◌, ℕ, List, [], ◌∷◌, ◌++◌, length, true, false, All}
use Rattle.std.specs.List.{flat_map}
use Rattle.jq_script.specs.Lines.{all_parts}
use Rattle.jq_script.specs.Requests.{line_limit}
use Rattle.jq_script.specs.declared.lines.Line.{Line}

-- These bytes of the line were read. They are kept unless the line is over the limit.
pub record HasRead (l : Line) (line : List ℕ) : Type 0 where
  pub long : l.is_long ≡ true → line_limit < length line
  pub kept : l.is_long ≡ false → l.kept.items ≡ line

abbrev pub ended : List ℕ → List ℕ
ended line = line ++ (10 ∷ [])

abbrev pub HasNoNewline : List ℕ → Type 0
HasNoNewline line = All (λ b. b ≢ 10) line

abbrev pub HaveNoNewline : List (List ℕ) → Type 0
HaveNoNewline [] = Unit {0}
HaveNoNewline (line ∷ lines) = HasNoNewline line × HaveNoNewline lines

-- These lines ended with newlines, and these bytes of the next line follow.
pub record AreLines (bytes : List ℕ) (whole : List (List ℕ)) (last : List ℕ) : Type 0 where
  pub parts : bytes ≡ flat_map ended whole ++ last
  pub clean : HaveNoNewline whole
  pub open_line : HasNoNewline last

-- These lines ended with newlines, and any bytes follow.
pub record AreLinesFirst (bytes : List ℕ) (whole : List (List ℕ)) : Type 0 where
  pub others : List ℕ
  pub parts : bytes ≡ flat_map ended whole ++ others
  pub clean : HaveNoNewline whole

-- the last line, which may lack its newline; without bytes there is no such line
abbrev pub last_line : List ℕ → List (List ℕ)
last_line last = all_parts (last ∷ [])
