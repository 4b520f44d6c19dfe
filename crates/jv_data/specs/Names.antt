-- The index of a name in a list of names. Names are compared by their bytes.
use Rattle.std.specs.Prelude.{◌≡◌, ℕ, zero, suc, List, [], ◌∷◌}
use Rattle.std.specs.declared.cmp.Ordering.TheVariants.{Equal, Greater}
use Rattle.std.specs.Cmp.Lexicographic.{slice_cmp}
use Rattle.std.specs.Ordering.{nat_cmp}

-- the name is the one at this index, and comes after those before it
abbrev pub IsAt : List ℕ → List (List ℕ) → ℕ → Type 0
IsAt k [] i = ⊥
IsAt k (l ∷ ls) zero = slice_cmp nat_cmp k l ≡ Equal
IsAt k (l ∷ ls) (suc i) = (slice_cmp nat_cmp k l ≡ Greater) × IsAt k ls i
