-- A fold over a list of inputs, which writes a piece of output at its start, for each input, and at its end.
use Rattle.std.specs.Prelude.{ℕ, ◌+◌, ◌≤◌, Bool, List, [], ◌∷◌, ◌++◌, take}
use Rattle.std.specs.List.{flat_map}
use Rattle.jv_data.specs.Value.{Value}
use Rattle.jq_pages.specs.Pieces.{PieceView}

-- Between the inputs the fold is in a state: `begin` gives the first one, `step` the next one. If `plain` is true, an edit runs
-- the edited input alone. Only a fold whose states are all equal may say so (`Steps::plain`).
pub record Fold (S : Type 0) : Type 0 where
  pub begin : PieceView × S
  pub step : S → Value → PieceView × S
  pub close : S → PieceView
  pub plain : Bool

-- the state after these inputs, from a state on
abbrev pub state_after : {S : Type 0} → Fold S → S → List Value → S
state_after f s [] = s
state_after f s (v ∷ vs) = state_after f (f.step s v).1 vs

-- the piece of each of these inputs, from a state on
abbrev pub pieces_after : {S : Type 0} → Fold S → S → List Value → List PieceView
pieces_after f s [] = []
pieces_after f s (v ∷ vs) = (f.step s v).0 ∷ pieces_after f (f.step s v).1 vs

-- a fold over the inputs that are present
pub record Folded (S : Type 0) : Type 0 where
  pub fold : Fold S
  pub inputs : List Value

-- the piece of `begin`
abbrev pub head : {S : Type 0} → Folded S → PieceView
head x = x.fold.begin.0

-- the piece of each input
abbrev pub pieces : {S : Type 0} → Folded S → List PieceView
pieces x = pieces_after x.fold x.fold.begin.1 x.inputs

-- the piece of `close`
abbrev pub tail : {S : Type 0} → Folded S → PieceView
tail x = x.fold.close (state_after x.fold x.fold.begin.1 x.inputs)

-- the pieces of `begin`, of each input and of `close`
abbrev pub all : {S : Type 0} → Folded S → List PieceView
all x = head x ∷ (pieces x ++ (tail x ∷ []))

-- what the fold writes
abbrev pub output : {S : Type 0} → Folded S → List ℕ
output x = flat_map (λ p. p.out) (all x)

abbrev pub errors : {S : Type 0} → Folded S → List ℕ
errors x = flat_map (λ p. p.err) (all x)

-- the state before the input of this number
abbrev pub state_at : {S : Type 0} → Folded S → ℕ → S
state_at x i = state_after x.fold x.fold.begin.1 (take i x.inputs)

-- a count rose by at most this
pub record Rises (old new by : ℕ) : Type 0 where
  pub low : old ≤ new
  pub high : new ≤ old + by
