-- What a reader had.
use Rattle.std.proofs.Common.{◌≡◌, ℕ, List, Option, refl}
use Rattle.std.specs.Io.KnownBytes.{Consumes, IsAtEnd}
use Rattle.std.proofs.KnownBytes.{Consumes-whole}
use Rattle.jq_devices.specs.Reading.{IsWhole}

-- all that it gave, if it is at its end
pub whole_read : (a b : Option (List ℕ)) (read : List ℕ) → Consumes a b read → IsAtEnd b → IsWhole read a
whole_read a b read consumed at_end = Consumes-whole a b read (λ bytes. read ≡ bytes) consumed at_end refl
