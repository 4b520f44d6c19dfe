-- The lines of a script.
use Rattle.std.specs.Prelude.{ℕ, List, [], ◌∷◌, ◌==◌, if◌then◌else◌, length}
use Rattle.std.specs.List.{slice_split}

-- the bytes before, between and after the newlines
abbrev pub parts : List ℕ → List (List ℕ)
parts bytes = slice_split (λ b. b == 10) bytes

abbrev pub ended_parts : List (List ℕ) → List (List ℕ)
ended_parts [] = []
ended_parts (p ∷ []) = []
ended_parts (p ∷ q ∷ rest) = p ∷ ended_parts (q ∷ rest)

-- the lines that end with a newline
abbrev pub whole_lines : List ℕ → List (List ℕ)
whole_lines bytes = ended_parts (parts bytes)

abbrev pub all_parts : List (List ℕ) → List (List ℕ)
all_parts [] = []
all_parts (p ∷ []) = if length p == 0 then [] else p ∷ []
all_parts (p ∷ q ∷ rest) = p ∷ all_parts (q ∷ rest)

-- all lines: the last one may lack its newline
abbrev pub lines : List ℕ → List (List ℕ)
lines bytes = all_parts (parts bytes)
