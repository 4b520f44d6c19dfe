-- How a run goes on through the frames around it, frame by frame.
use Rattle.std.specs.Prelude.{ℕ, List, [], ◌∷◌, nat_eq, if◌then◌else◌, Option, Some, None}
use Rattle.jq_meaning.specs.machine.State.{Cell}
use Rattle.jq_meaning.specs.Runs.{Ending, Done, Raised, Broken, Stopped, Run, ended, before, go_on, then_run, bind}

-- ---- cells: what is kept at a height of the stack of fork points (the items of an array, the state of a fold)

abbrev pub Cells : Type 0
Cells = ℕ → Cell

abbrev pub put : ℕ → Cell → Cells → Cells
put h c s = λ n. if nat_eq n h then c else s n

-- the remaining run, which may depend on the cells
abbrev pub Rest : Type 0 → Type 0
Rest T = Cells → Run T

-- the same after a cell is set
abbrev pub at : {T : Type 0} → ℕ → Cell → Rest T → Rest T
at h c a = λ s. a (put h c s)

-- ---- the surroundings of a run: where an item goes, and what comes after it; and where an ending other than Done goes

pub record Flow (A T : Type 0) : Type 0 where
  pub give : A → Rest T → Rest T
  pub stop : Ending → Rest T

abbrev pub end_by : {A T : Type 0} → Flow A T → Ending → Rest T → Rest T
end_by w Done a = a
end_by w (Raised v) a = w.stop (Raised v)
end_by w (Broken k) a = w.stop (Broken k)
end_by w (Stopped stop) a = w.stop (Stopped stop)

abbrev pub give_all : {A T : Type 0} → Flow A T → List A → Rest T → Rest T
give_all w [] a = a
give_all w (x ∷ xs) a = w.give x (give_all w xs a)

-- a run, and what comes after it
abbrev pub feed : {A T : Type 0} → Flow A T → Run A → Rest T → Rest T
feed w r a = give_all w r.items (end_by w r.ending a)

-- no surroundings
abbrev pub outside : {T : Type 0} → Flow T T
outside = record { give = λ x a s. before (x ∷ []) (a s); stop = λ e s. ended e }

-- ---- the kinds of frames

-- each item makes a run
abbrev pub through_flow : {A B T : Type 0} → (A → Run B) → Flow B T → Flow A T
through_flow g w = record { give = λ x a. feed w (g x) a; stop = w.stop }

-- some endings are caught: the stack is cut to what remains then, and another run goes on
abbrev pub Taken : Type 0 → Type 0
Taken B = Ending → Option (Run B)

abbrev pub take_or : {B T : Type 0} → Flow B T → Rest T → Ending → Option (Run B) → Rest T
take_or w cut e None = w.stop e
take_or w cut e (Some r) = feed w r cut

abbrev pub guard_flow : {B T : Type 0} → Taken B → Rest T → Flow B T → Flow B T
guard_flow take cut w = record { give = w.give; stop = λ e. take_or w cut e (take e) }

-- each item changes the cell, and then makes a run
abbrev pub turn_flow : {A B T : Type 0} → ℕ → (A → Cell → Cell) → (A → Run B) → Flow B T → Flow A T
turn_flow h store extract w = record { give = λ x a s. feed w (extract x) a (put h (store x (s h)) s); stop = w.stop }

-- what a fold does with an S and its cell
pub record FoldBehaviour (S A B : Type 0) : Type 0 where
  pub begin : S → Cell → Cell
  pub update : S → Cell → Run A
  pub store : A → Cell → Cell
  pub extract : S → A → Run B
  -- the error after an update, from the cell before the update and after it
  pub check : S → Cell → Cell → Run B

abbrev pub source_flow : {S A B T : Type 0} → ℕ → FoldBehaviour S A B → Flow B T → Flow S T
source_flow h f w =
    record { give = λ x a s. feed (turn_flow h f.store (f.extract x) w) (f.update x (s h)) (λ s'. feed w (f.check x (s h) (s' h)) a s') (put h (f.begin x (s h)) s); stop = w.stop }

-- ---- the runs of these frames

abbrev pub taken : {B : Type 0} → Ending → Option (Run B) → Run B
taken e None = ended e
taken e (Some r) = r

abbrev pub guarded : {B : Type 0} → Taken B → Run B → Run B
guarded take r = before r.items (taken r.ending (take r.ending))

abbrev pub cell_after : {A : Type 0} → (A → Cell → Cell) → List A → Cell → Cell
cell_after store [] c = c
cell_after store (x ∷ xs) c = cell_after store xs (store x c)

-- the items are extracted, and at the end comes the result of the cell
abbrev pub stored : {A B : Type 0} → (A → Cell → Cell) → (A → Run B) → (Cell → Run B) → Cell → Run A → Run B
stored store extract finish c r = then_run (bind r extract) (go_on r.ending (finish (cell_after store r.items c)))

abbrev pub folded : {S A B : Type 0} → FoldBehaviour S A B → (Cell → Run B) → List S → Ending → Cell → Run B
folded f finish [] e c = go_on e (finish c)
folded f finish (x ∷ xs) e c =
    stored f.store (f.extract x) (λ d. then_run (f.check x c d) (folded f finish xs e d)) (f.begin x c) (f.update x c)
