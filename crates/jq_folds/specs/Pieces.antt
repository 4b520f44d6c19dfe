-- The pieces of a fold over the inputs: one for the start, one for each input, and one for what follows the fold.
use Rattle.std.specs.Prelude.{List, [], ◌∷◌}
use Rattle.jv_data.specs.Value.{Value}
use Rattle.jq_meaning.specs.Runs.{Item, Ending, Done, Raised, Broken, Stopped, Run, ended, none, one, then_run}

-- The state after some inputs. After an ending other than Done the fold has stopped.
pub data FoldState : Type 0 where
  going : Item → FoldState
  stopped : FoldState

-- A piece and the state after it.
pub record Stepped : Type 0 where
  pub run : Run Item
  pub next : FoldState

-- the state that a run of states comes to: its only item
abbrev pub state_of : List Item → Ending → FoldState
state_of [] e = stopped
state_of (s ∷ []) Done = going s
state_of (s ∷ []) (Raised v) = stopped
state_of (s ∷ []) (Broken k) = stopped
state_of (s ∷ []) (Stopped stop) = stopped
state_of (s ∷ t ∷ ss) e = stopped

-- this state, if the ending is Done
abbrev pub if_done : Ending → FoldState → FoldState
if_done Done s = s
if_done (Raised v) s = stopped
if_done (Broken k) s = stopped
if_done (Stopped stop) s = stopped

-- a piece with these outputs, and the state that these states lead to
abbrev pub stepped : (outputs states : Run Item) → Stepped
stepped outputs states = record { run = outputs; next = if_done outputs.ending (state_of states.items states.ending) }

-- the start, which has no outputs
abbrev pub begun : (states : Run Item) → Stepped
begun states = stepped (ended states.ending) states

-- What a fold does with a state and an input, and with its last state.
pub record Steps : Type 0 where
  pub step : Item → Value → Stepped
  pub close : Item → Run Item

-- a fold that has stopped has no outputs
abbrev pub step_from : Steps → FoldState → Value → Stepped
step_from f (going s) v = f.step s v
step_from f stopped v = record { run = none; next = stopped }

abbrev pub close_from : Steps → FoldState → Run Item
close_from f (going s) = f.close s
close_from f stopped = none

-- the pieces from a state on
abbrev pub pieces_from : Steps → FoldState → List Value → List (Run Item)
pieces_from f s [] = close_from f s ∷ []
pieces_from f s (v ∷ vs) = (step_from f s v).run ∷ pieces_from f (step_from f s v).next vs

-- all pieces
abbrev pub pieces : Steps → (start : Run Item) → List Value → List (Run Item)
pieces f start vs = (begun start).run ∷ pieces_from f (begun start).next vs

-- ---- a step as one run

abbrev pub state_run : FoldState → Run Item
state_run (going s) = one s
state_run stopped = none

-- the outputs of a step, and then the next state if there is one
abbrev pub with_state : Stepped → Run Item
with_state s = then_run s.run (state_run s.next)
