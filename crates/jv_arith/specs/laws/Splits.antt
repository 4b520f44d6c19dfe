-- The first occurrence of a separator in a text, and the parts with the separator between them.
use Rattle.std.specs.Prelude.{◌≡◌, ◌≤◌, ℕ, List, [], ◌∷◌, ◌++◌, length}

-- the parts with sep between them
abbrev pub join : List ℕ → List (List ℕ) → List ℕ
join sep [] = []
join sep (p ∷ []) = p
join sep (p ∷ q ∷ ps) = p ++ (sep ++ join sep (q ∷ ps))

-- in p, then sep, then r, the separator does not occur before the end of p
abbrev pub StandsFirst : List ℕ → List ℕ → List ℕ → Type 0
StandsFirst sep p r = (q t : List ℕ) → p ++ (sep ++ r) ≡ q ++ (sep ++ t) → length p ≤ length q
