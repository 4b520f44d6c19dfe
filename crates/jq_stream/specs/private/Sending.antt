-- Bytes that are kept in a buffer before they are written.
use Rattle.std.specs.Prelude.{◌≡◌, ℕ, List, ◌++◌, Option}
use Rattle.std.specs.Io.KnownBytes.{Appends}

-- These bytes were added to those in the buffer: what was written, followed by what is in the buffer now.
pub record IsSent (waiting_old waiting_new : List ℕ) (old new : Option (List ℕ)) (bytes : List ℕ) : Type 0 where
  pub front : List ℕ
  pub parts : waiting_old ++ bytes ≡ front ++ waiting_new
  pub written : Appends old new front

-- The same for the first of these bytes.
pub record IsSentFirst (waiting_old waiting_new : List ℕ) (old new : Option (List ℕ)) (bytes : List ℕ) : Type 0 where
  pub front : List ℕ
  pub back : List ℕ
  pub parts : waiting_old ++ bytes ≡ (front ++ waiting_new) ++ back
  pub written : Appends old new front
