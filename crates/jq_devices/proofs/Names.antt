-- The names of files.
use Rattle.std.proofs.Common.{◌≡◌, ◌<◌, ℕ, List, [], ◌∷◌, String, Global, length, map, slice_index_or, string_bytes, sym, ap, arith}

-- the first of some names
pub first_name : (names : List (String Global)) (name : String Global) → 0 < length names → name ≡ slice_index_or names 0 name
    → (rest : List (List ℕ)) × (map string_bytes names ≡ string_bytes name ∷ rest)
first_name [] name some is = absurd (omega (arith, some))
first_name (n ∷ ns) name some is = (map string_bytes ns, ap (λ s. string_bytes s ∷ map string_bytes ns) (sym is))
