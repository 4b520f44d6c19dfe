-- How often a filter was started.
use Rattle.std.specs.Prelude.{◌≡◌, ◌≤◌, ◌⊎◌, ◌+◌, ◌-◌, ◌^◌, ℕ}
use Rattle.jq_starts.specs.declared.starts.Starts.{Starts}

-- the number of starts that were counted
abbrev pub starts_in : Starts → ℕ
starts_in s = s.count

-- The count rose by at most n.
abbrev pub HasStartedAtMost : ℕ → (old new : Starts) → Type 0
HasStartedAtMost n old new = (starts_in old ≤ starts_in new) × (starts_in new ≤ starts_in old + n)

-- The count rose by n, or it is at its greatest value and rose by no more than n.
abbrev pub HasStarted : ℕ → (old new : Starts) → Type 0
HasStarted n old new = HasStartedAtMost n old new × ((starts_in new ≡ starts_in old + n) ⊎ (2 ^ 64 - 1 ≤ starts_in new))
