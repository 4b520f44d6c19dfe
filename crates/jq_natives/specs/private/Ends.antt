-- What a text is without a prefix or a suffix.
use Rattle.std.specs.Prelude.{◌≡◌, ℕ, ◌-◌, List, length, take, drop, nat_eq, true}
use Rattle.std.specs.List.{starts_with, ends_with}

-- The text begins with the part, and the rest follows it.
abbrev pub IsAfter : (part text rest : List ℕ) → Type 0
IsAfter part text rest = (starts_with nat_eq text part ≡ true) × (rest ≡ drop (length part) text)

-- The text ends with the part, and the rest precedes it.
abbrev pub IsBefore : (part text rest : List ℕ) → Type 0
IsBefore part text rest = (ends_with nat_eq text part ≡ true) × (rest ≡ take (length text - length part) text)
