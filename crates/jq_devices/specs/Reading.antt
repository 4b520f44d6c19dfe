-- What a reader has left.
use Rattle.std.specs.Prelude.{◌≡◌, ℕ, List, Option, IfSome}

-- These are the bytes that a reader had left, if they are known.
abbrev pub IsWhole : List ℕ → Option (List ℕ) → Type 0
IsWhole input remaining = IfSome remaining (λ bytes. input ≡ bytes)
