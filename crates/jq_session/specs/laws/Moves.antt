-- A move as two edits.
use Rattle.std.specs.Prelude.{◌≡◌, ℕ, Ok}
use Rattle.jq_session.specs.States.{State, Halves, after_move}

-- A move that the definition accepts is a removal and then an insertion.
abbrev pub MovesHaveHalves : Type 0
MovesHaveHalves = (k l : ℕ) (s t : State) → after_move k l s ≡ Ok t → Halves k l s t

-- Two such edits are a move.
abbrev pub HalvesAreMoves : Type 0
HalvesAreMoves = (k l : ℕ) (s t : State) → Halves k l s t → after_move k l s ≡ Ok t
