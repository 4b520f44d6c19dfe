-- The lines of a script, as a table: the form of the lines for each instruction.
use Rattle.std.specs.Prelude.{◌≡◌, ◌≢◌, ◌≤◌, ◌↔◌, ℕ, List, ◌∷◌, ◌++◌, length, codes, Some}
use Rattle.jq_script.specs.Requests.{Request, change, remove, move, show, errors, status, unknown, insert, replace, append, Instruction, request, filter, place_of, line_limit, instruction_of}

-- these digits are the number of an input
abbrev pub Writes : List ℕ → ℕ → Type 0
Writes digits k = place_of digits ≡ Some k

-- two parts, and exactly one space between them
abbrev pub parted : (word rest : List ℕ) → List ℕ
parted word rest = word ++ 32 ∷ rest

abbrev pub AsksFor : Request → List ℕ → Type 0
AsksFor (change (insert k) text) line = (digits : List ℕ) × Writes digits k × (line ≡ parted (codes "insert") (parted digits text))
AsksFor (change (replace k) text) line = (digits : List ℕ) × Writes digits k × (line ≡ parted (codes "replace") (parted digits text))
AsksFor (change append text) line = line ≡ parted (codes "append") text
AsksFor (remove k) line = (digits : List ℕ) × Writes digits k × (line ≡ parted (codes "remove") digits)
AsksFor (move k l) line = (from : List ℕ) × (to : List ℕ) × Writes from k × Writes to l × (line ≡ parted (codes "move") (parted from to))
AsksFor show line = line ≡ codes "show"
AsksFor errors line = line ≡ codes "errors"
AsksFor status line = line ≡ codes "status"
AsksFor unknown line = ⊥

abbrev pub Gives : Instruction → List ℕ → Type 0
Gives (request r) line = AsksFor r line
Gives (filter text) line = line ≡ parted (codes "filter") text

-- A line that is not too long gives an instruction exactly if it is in the table; every other line is unknown.
abbrev pub IsTable : Type 0
IsTable = (line : List ℕ) (i : Instruction) → length line ≤ line_limit → i ≢ request unknown → (instruction_of line ≡ i) ↔ Gives i line
