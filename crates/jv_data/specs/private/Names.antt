-- Where a name goes among names in order. Names are compared by their bytes.
use Rattle.std.specs.Prelude.{◌≡◌, ℕ, zero, suc, List, [], ◌∷◌}
use Rattle.std.specs.declared.cmp.Ordering.TheVariants.{Less, Greater}
use Rattle.std.specs.Cmp.Lexicographic.{slice_cmp}
use Rattle.std.specs.Ordering.{nat_cmp}

-- the name comes after those before this index, and before the one at it
abbrev pub GoesTo : List ℕ → List (List ℕ) → ℕ → Type 0
GoesTo k [] zero = Unit {0}
GoesTo k [] (suc i) = ⊥
GoesTo k (l ∷ ls) zero = slice_cmp nat_cmp k l ≡ Less
GoesTo k (l ∷ ls) (suc i) = (slice_cmp nat_cmp k l ≡ Greater) × GoesTo k ls i
