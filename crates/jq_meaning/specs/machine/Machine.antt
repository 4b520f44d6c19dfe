-- The machine: one transition of each state, and the run that a state produces.
use Rattle.std.specs.Prelude.{◌≡◌, ℕ, List, [], ◌∷◌, nat_eq, if◌then◌else◌, suc}
use Rattle.jv_data.specs.Value.{Value}
use Rattle.jq_meaning.specs.Runs.{Item, plain, Ending, Done, Raised, Broken, Stopped, Run, ended, before, path_error, array_of_items}
use Rattle.jq_meaning.specs.machine.State.{Cell, Frame, left_side, try_body, label_body, Next, evaluate, give, matching, matched, go_back, raise, leave, quit, Choice, other, remaining, collected, last_state, no_more, right_side, check_update, ForkPoint, State, state, Progress, moves, outputs, finishes}
use Rattle.jq_meaning.specs.machine.Stack.{cut, cell_at}
use Rattle.jq_meaning.specs.machine.Operations.{deliver, refusing, state_in}
use Rattle.jq_meaning.specs.machine.Evaluating.{enter}
use Rattle.jq_meaning.specs.machine.Matching.{match_pattern, match_later}
use Rattle.jq_meaning.specs.machine.Giving.{receive}

-- ---- going back to the newest fork point

-- n is done next if the cell is empty, else the machine goes back
abbrev pub if_empty : Cell → Next → Next
if_empty [] n = n
if_empty (x ∷ c) n = go_back

-- inside `path(f)` an update without output is an error
abbrev pub resume_deliver : Cell → List Frame → List ForkPoint → State
resume_deliver [] k fs = deliver path_error k fs
resume_deliver (x ∷ c) k fs = state go_back k fs

-- What the newest fork point runs when the machine goes back to it. The fork point is
-- already taken off the stack; c is its cell.
abbrev pub resume : Choice → Cell → List Frame → List ForkPoint → State
resume (other g p x) c k fs = state (evaluate g p x) k fs
resume (remaining r) c k fs = deliver r k fs
resume collected c k fs = state (give (plain (array_of_items c))) k fs
resume last_state c k fs = state (give (state_in c)) k fs
resume no_more c k fs = state go_back k fs
resume (right_side g p x) c k fs = state (if_empty c (evaluate g p x)) k fs
resume (check_update h) c k fs = resume_deliver (cell_at h fs) k fs

-- ---- the search for the handler of an error or the label of a break, along the continuation from the innermost frame

-- an error goes to the handler of the innermost `try`, or ends the left side of `//`; the
-- stack is cut to the height in that frame
abbrev pub find_handler : Value → List Frame → List ForkPoint → Progress
find_handler v [] fs = finishes (Raised v)
find_handler v (try_body h g p x ∷ k) fs = moves (state (evaluate g p (plain v)) (refusing x k) (cut h fs))
find_handler v (left_side h ∷ k) fs = moves (state go_back k (cut (suc h) fs))
find_handler v (f ∷ k) fs = find_handler v k fs

-- a break of a level goes to the label of that level
abbrev pub find_label : ℕ → List Frame → List ForkPoint → Progress
find_label level [] fs = finishes (Broken level)
find_label level (label_body h here ∷ k) fs = if nat_eq level here then moves (state go_back k (cut h fs)) else find_label level k fs
find_label level (f ∷ k) fs = find_label level k fs

-- ---- one transition

-- One transition: what is done next, with its frames and fork points.
abbrev pub step_of : Next → List Frame → List ForkPoint → Progress
step_of (evaluate t p x) k fs = moves (enter t p x k fs)
step_of (give x) [] fs = outputs x (state go_back [] fs)
step_of (give x) (f ∷ k) fs = moves (receive f x k fs)
step_of (matching pattern v ts b p) k fs = moves (match_pattern pattern v ts b p k fs)
step_of (matched ts b p) k fs = moves (match_later ts b p k fs)
step_of go_back k [] = finishes Done
step_of go_back k (f ∷ fs) = moves (resume f.choice f.cell f.frames fs)
step_of (raise v) k fs = find_handler v k fs
step_of (leave level) k fs = find_label level k fs
step_of (quit stop) k fs = finishes (Stopped stop)

-- One transition of a state.
abbrev pub step : State → Progress
step s = step_of s.next s.frames s.forks

-- ---- the run of a state: its outputs and its ending after finitely many transitions

-- A state produces a run: its outputs in order, and then its ending.
pub data Produces : State → Run Item → Type 0 where
  after_end : {s : State} {e : Ending} → step s ≡ finishes e → Produces s (ended e)
  after_output : {s t : State} {x : Item} {r : Run Item} → step s ≡ outputs x t → Produces t r → Produces s (before (x ∷ []) r)
  after_move : {s t : State} {r : Run Item} → step s ≡ moves t → Produces t r → Produces s r

-- ---- several transitions in a row, without an output

-- Several transitions lead from one state to another.
pub data Reaches : State → State → Type 0 where
  here : {s : State} → Reaches s s
  onward : {s t u : State} → step s ≡ moves t → Reaches t u → Reaches s u
