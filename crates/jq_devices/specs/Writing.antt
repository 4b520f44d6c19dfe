-- What is on a writer after a flush and after a fault.
use Rattle.std.specs.Prelude.{◌≡◌, ℕ, List, ◌++◌, Option, Some, IfSome}
use Rattle.std.specs.Io.KnownBytes.{Appends}

-- the first of these bytes were appended, if the bytes are known
abbrev pub AppendsFirst : Option (List ℕ) → Option (List ℕ) → List ℕ → Type 0
AppendsFirst old new bytes = (front : List ℕ) × (back : List ℕ) × (bytes ≡ front ++ back) × Appends old new front

-- the bytes that a writer has flushed, if it tells them, are all that were written to it
abbrev pub IsFlushed : (contents flushed : Option (List ℕ)) → Type 0
IsFlushed contents flushed = IfSome flushed (λ bytes. contents ≡ Some bytes)

-- these bytes were appended, and then others, if the bytes are known
abbrev pub AppendsMore : Option (List ℕ) → Option (List ℕ) → List ℕ → Type 0
AppendsMore old new bytes = (more : List ℕ) × Appends old new (bytes ++ more)
