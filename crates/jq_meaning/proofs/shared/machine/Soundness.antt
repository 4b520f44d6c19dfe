-- Invariants of the frames and fork points of each state.
use Rattle.std.proofs.Common.{ℕ, ◌≤◌, List, [], ◌∷◌, length}
use Rattle.jq_meaning.proofs.shared.machine.Behaviours.{Behaviour, through, guard, turn, fold_source, Waiting, Fits, WaitingFit}
use Rattle.jq_meaning.proofs.shared.machine.Events.{Event}
use Rattle.jq_meaning.proofs.shared.machine.Marks.{Pass}

-- heights fall from the innermost frame outwards, so a cut keeps what the frames outside of it need
abbrev pub Ordered : {A S : Type 0} → List (Behaviour A S) → Type 0
Ordered [] = Unit {0}
Ordered (through g ∷ k) = Ordered k
Ordered (guard h take ∷ k) = Fits h k × Ordered k
Ordered (turn h store extract ∷ k) = Fits h k × Ordered k
Ordered (fold_source h pattern f ∷ k) = Fits h k × Ordered k

-- ---- invariants of each state

pub record Sound {A S : Type 0} (n : ℕ) (k : List (Behaviour (Event A) (Event S))) : Type 0 where
  pub fits : Fits n k
  pub ordered : Ordered k
  pub passes : Pass k

abbrev pub WaitingSound : {A S : Type 0} → List (Waiting (Event A) (Event S)) → Type 0
WaitingSound [] = Unit {0}
WaitingSound (f ∷ fs) = (f.looks_at ≤ length fs) × Sound (length fs) f.frames × WaitingSound fs

pub forks_fit : {A S : Type 0} (fs : List (Waiting (Event A) (Event S))) → WaitingSound fs → WaitingFit fs
forks_fit [] p = tt
forks_fit (f ∷ fs) p = (p.0, p.1.fits, forks_fit fs p.2)
