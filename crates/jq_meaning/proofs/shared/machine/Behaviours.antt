-- The behaviours that the frames and fork points of a machine represent, and the remaining run of a state.
-- An item is of type A, and what a fold's source binds of type S.
use Rattle.std.specs.Prelude.{ℕ, ◌<◌, ◌≤◌, List, [], ◌∷◌, length, nat_lt, if◌then◌else◌}
use Rattle.jq_meaning.specs.Runs.{Done, Run, ended}
use Rattle.jq_meaning.specs.machine.State.{Cell}
use Rattle.jq_meaning.proofs.shared.machine.Flow.{Rest, Flow, feed, outside, through_flow, Taken, guard_flow, turn_flow, FoldBehaviour, source_flow}

-- A number is a position in the stack of fork points: where the stack is cut, or whose cell is used.
pub data Behaviour (A S : Type 0) : Type 0 where
  -- each item makes a run
  through : (A → Run A) → Behaviour A S
  -- some endings are taken, and the stack is cut
  guard : (height : ℕ) → Taken A → Behaviour A S
  -- each item changes the cell and makes a run
  turn : (height : ℕ) → (A → Cell → Cell) → (A → Run A) → Behaviour A S
  -- each item makes bindings, and each of them is a step of the fold whose state is in the cell
  fold_source : (height : ℕ) → (A → Run S) → FoldBehaviour S A A → Behaviour A S

-- a run that is kept in a fork point, which may read a cell, and where its items go
pub record Waiting (A S : Type 0) : Type 0 where
  pub looks_at : ℕ
  pub run : Cell → Run A
  pub frames : List (Behaviour A S)

abbrev pub pending : {A S : Type 0} → Run A → List (Behaviour A S) → Waiting A S
pending r k = record { looks_at = 0; run = λ c. r; frames = k }

-- what remains when the stack is cut to a height
abbrev pub Cuts : Type 0 → Type 0
Cuts A = ℕ → Rest A

abbrev pub frame_flow : {A S : Type 0} → Cuts A → Behaviour A S → Flow A A → Flow A A
frame_flow cuts (through g) w = through_flow g w
frame_flow cuts (guard h take) w = guard_flow take (cuts h) w
frame_flow cuts (turn h store extract) w = turn_flow h store extract w
frame_flow cuts (fold_source h pattern f) w = through_flow pattern (source_flow h f w)

abbrev pub flow_of : {A S : Type 0} → Cuts A → List (Behaviour A S) → Flow A A
flow_of cuts [] = outside
flow_of cuts (f ∷ k) = frame_flow cuts f (flow_of cuts k)

-- a fork point above those with these cuts, at the height h
abbrev pub resumed : {A S : Type 0} → Waiting A S → ℕ → Cuts A → Rest A
resumed f h cuts = λ s. feed (flow_of cuts f.frames) (f.run (s f.looks_at)) (cuts h) s

abbrev pub cuts_of : {A S : Type 0} → List (Waiting A S) → Cuts A
cuts_of [] h = λ s. ended Done
cuts_of (f ∷ fs) h = if nat_lt (length fs) h then resumed f (length fs) (cuts_of fs) else cuts_of fs h

-- the remaining run, where r is to pass the frames, over the fork points
abbrev pub rest : {A S : Type 0} → Run A → List (Behaviour A S) → List (Waiting A S) → Rest A
rest r k fs = feed (flow_of (cuts_of fs) k) r (cuts_of fs (length fs))

-- ---- invariants of all states

-- the heights in a frame exist in a stack of n
abbrev pub BehaviourFits : {A S : Type 0} → ℕ → Behaviour A S → Type 0
BehaviourFits n (through g) = Unit {0}
BehaviourFits n (guard h take) = h ≤ n
BehaviourFits n (turn h store extract) = h < n
BehaviourFits n (fold_source h pattern f) = h < n

abbrev pub Fits : {A S : Type 0} → ℕ → List (Behaviour A S) → Type 0
Fits n [] = Unit {0}
Fits n (f ∷ k) = BehaviourFits n f × Fits n k

abbrev pub WaitingFit : {A S : Type 0} → List (Waiting A S) → Type 0
WaitingFit [] = Unit {0}
WaitingFit (f ∷ fs) = (f.looks_at ≤ length fs) × Fits (length fs) f.frames × WaitingFit fs
