-- The failures of a reader or writer over calls that come one after the other.
use Rattle.std.proofs.Common.{◌≡◌, ◌≤◌, ℕ, inl, inr, subst, arith}
use Rattle.jq_devices.specs.Watched.{HasFailed}

-- none failed before
pub failed_after : (a b c : ℕ) → b ≡ a → HasFailed b c → HasFailed a c
failed_after a b c same failed = subst (λ n. HasFailed n c) same failed

-- others came afterwards
pub failed_more : (a b c : ℕ) → HasFailed a b → b ≤ c → HasFailed a c
failed_more a b c failed kept = elim failed [
  | inl rose ↦ inl (omega (arith, rose, kept))
  | inr most ↦ inr (omega (arith, most, kept))
]
