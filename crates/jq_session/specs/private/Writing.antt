-- Bytes that are kept in a buffer before they are written.
use Rattle.std.specs.Prelude.{◌≡◌, ℕ, List, ◌++◌, Option}
use Rattle.std.specs.Io.KnownBytes.{Appends}

-- These bytes were added to those in the buffer: what was written, followed by what is in the buffer now.
pub record IsPassed (kept_old kept_new : List ℕ) (old new : Option (List ℕ)) (bytes : List ℕ) : Type 0 where
  pub front : List ℕ
  pub parts : kept_old ++ bytes ≡ front ++ kept_new
  pub written : Appends old new front
