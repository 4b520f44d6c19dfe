-- The selectors of a location, the last one first.
use Rattle.std.proofs.Common.{◌≡◌, ◌∙◌, List, [], ◌∷◌, ◌++◌, map, reverse, ap}
use Rattle.std.proofs.lemmas.List.{reverse-append}
use Rattle.jv_value.specs.private.Locations.{selector_of}
use Rattle.jv_value.specs.declared.locations.Child.{Child}

reverse-push : {X : Type 0} (xs : List X) (x : X) → reverse (xs ++ x ∷ []) ≡ x ∷ reverse xs
reverse-push xs x = reverse-append xs (x ∷ [])

-- the selector that was removed is the first
pub popped : (xs rest : List Child) (c : Child) → xs ≡ rest ++ c ∷ [] → map selector_of (reverse xs) ≡ selector_of c ∷ map selector_of (reverse rest)
popped xs rest c e = ap (λ ys. map selector_of (reverse ys)) e ∙ ap (map selector_of) (reverse-push rest c)
