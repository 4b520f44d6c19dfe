-- Counts of starts.
use Rattle.std.proofs.Common.{◌≡◌, ◌≤◌, ◌⊎◌, ◌+◌, ◌-◌, ◌^◌, ℕ, inl, inr, arith}
use Rattle.jq_starts.specs.Starts.{starts_in, HasStarted, HasStartedAtMost}
use Rattle.jq_starts.specs.declared.starts.Starts.{Starts}

both_rose : (m n a b c : ℕ) → b ≤ c → (b ≡ a + m) ⊎ (2 ^ 64 - 1 ≤ b) → (c ≡ b + n) ⊎ (2 ^ 64 - 1 ≤ c) → (c ≡ a + (m + n)) ⊎ (2 ^ 64 - 1 ≤ c)
both_rose m n a b c le (inl e) (inl f) = inl (omega arith)
both_rose m n a b c le (inr e) (inl f) = inr (omega arith)
both_rose m n a b c le rose (inr f) = inr f

pub both : (m n : ℕ) (a b c : Starts) → HasStarted m a b → HasStarted n b c → HasStarted (m + n) a c
both m n a b c e f =
    ((omega (arith, e.0.0, f.0.0), omega (arith, e.0.1, f.0.1)), both_rose m n (starts_in a) (starts_in b) (starts_in c) f.0.0 e.1 f.1)

pub most : (m n : ℕ) (a b : Starts) → HasStarted m a b → m ≤ n → HasStartedAtMost n a b
most m n a b e le = (e.0.0, omega (arith, e.0.1))

pub none : (s : Starts) → HasStarted 0 s s
none s = ((omega arith, omega arith), inl (omega arith))
