-- The states and the endings of the pieces of a fold.
use Rattle.std.specs.Prelude.{◌≡◌, List, [], ◌∷◌, ⊤}
use Rattle.jv_data.specs.Value.{Value}
use Rattle.jq_meaning.specs.Runs.{Item, plain, located, Ending, Done, Run, none}
use Rattle.jq_folds.specs.Pieces.{FoldState, going, stopped, Steps, step_from}

-- the states, one after the other
abbrev pub states_from : Steps → FoldState → List Value → FoldState
states_from f s [] = s
states_from f s (v ∷ vs) = states_from f (step_from f s v).next vs

-- The state has no path.
abbrev pub IsValue : FoldState → Type 0
IsValue (going (plain v)) = ⊤
IsValue (going (located v p)) = ⊥
IsValue stopped = ⊤

-- A piece that ends with Done leads to a state, and any other one stops the fold.
abbrev pub LeadsTo : Ending → FoldState → Type 0
LeadsTo Done (going s) = ⊤
LeadsTo Done stopped = ⊥
LeadsTo e (going s) = ⊥
LeadsTo e stopped = ⊤

-- no items, and Done
abbrev pub AllNone : List (Run Item) → Type 0
AllNone [] = ⊤
AllNone (r ∷ rs) = (r ≡ none) × AllNone rs

-- After a piece with another ending than Done, all have no items and end with Done.
abbrev pub EndsOnce : List (Run Item) → Type 0
EndsOnce [] = ⊤
EndsOnce (r ∷ rs) = (¬ (r.ending ≡ Done) → AllNone rs) × EndsOnce rs
