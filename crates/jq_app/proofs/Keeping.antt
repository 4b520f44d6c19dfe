-- What was written stays.
use Rattle.std.proofs.Common.{◌≤◌, inl, inr, ℕ, List, Option}
use Rattle.std.specs.Io.KnownBytes.{Keeps}
use Rattle.std.proofs.KnownBytes.{Appends-kept}
use Rattle.jq_devices.proofs.shared.Failures.{failed_more}
use Rattle.jq_app.specs.Blaming.{IsWritten}

-- the bytes stay as they are
pub written_kept : (bytes : List ℕ) (a b c : ℕ) (old mid new : Option (List ℕ)) → IsWritten bytes a b old mid → Keeps mid new → b ≤ c → IsWritten bytes a c old new
written_kept bytes a b c old mid new written kept more = elim written [
  | inl whole ↦ inl (Appends-kept old mid new bytes whole kept)
  | inr part ↦ inr ((part.0.0, part.0.1, part.0.2, Appends-kept old mid new part.0.0 part.0.3 kept), failed_more a b c part.1 more)
]
