-- The stack of fork points by height: the height of a fork point is the number of fork points below it.
use Rattle.std.specs.Prelude.{ℕ, List, [], ◌∷◌, length, nat_eq, nat_lt, if◌then◌else◌}
use Rattle.jq_meaning.specs.machine.State.{Cell, ForkPoint, fork}

-- the lowest h elements
abbrev pub cut : {A : Type 0} → ℕ → List A → List A
cut h [] = []
cut h (x ∷ xs) = if nat_lt (length xs) h then x ∷ xs else cut h xs

-- the cell of the fork point at a height
abbrev pub cell_at : ℕ → List ForkPoint → Cell
cell_at h [] = []
cell_at h (f ∷ fs) = if nat_eq h (length fs) then f.cell else cell_at h fs

-- the stack with another cell at a height
abbrev pub set_cell : ℕ → Cell → List ForkPoint → List ForkPoint
set_cell h c [] = []
set_cell h c (f ∷ fs) = if nat_eq h (length fs) then fork f.choice c f.frames ∷ fs else f ∷ set_cell h c fs
