-- Setting a cell to its own contents.
use Rattle.std.proofs.Common.{◌≡◌, ℕ, List, [], ◌∷◌, Bool, true, false, length, nat_eq, if◌then◌else◌, refl, ap}
use Rattle.jq_meaning.specs.machine.Stack.{cell_at, set_cell}
use Rattle.jq_meaning.specs.machine.State.{ForkPoint, fork}

either : (here : Bool) (h : ℕ) (f : ForkPoint) (fs : List ForkPoint) → set_cell h (cell_at h fs) fs ≡ fs
    → (if here then fork f.choice (if here then f.cell else cell_at h fs) f.frames ∷ fs else f ∷ set_cell h (if here then f.cell else cell_at h fs) fs) ≡ f ∷ fs
either true h f fs e = refl
either false h f fs e = ap (λ l. f ∷ l) e

pub same_cell : (h : ℕ) (fs : List ForkPoint) → set_cell h (cell_at h fs) fs ≡ fs
same_cell h [] = refl
same_cell h (f ∷ fs) = either (nat_eq h (length fs)) h f fs (same_cell h fs)
