-- Slots that are all empty, or all full.
use Rattle.std.specs.Prelude.{List, [], ◌∷◌, Option, Some, None}

abbrev pub AreNone : {X : Type 0} → List (Option X) → Type 0
AreNone [] = Unit {0}
AreNone (None ∷ slots) = AreNone slots
AreNone (Some v ∷ slots) = ⊥

abbrev pub AreSome : {X : Type 0} → List (Option X) → Type 0
AreSome [] = Unit {0}
AreSome (None ∷ slots) = ⊥
AreSome (Some v ∷ slots) = AreSome slots

-- the values that are there
abbrev pub values_there : {X : Type 0} → List (Option X) → List X
values_there [] = []
values_there (None ∷ slots) = values_there slots
values_there (Some v ∷ slots) = v ∷ values_there slots
