-- The grammar as a test.
use Rattle.std.proofs.Common.{◌≡◌, ℕ, List, [], ◌∷◌, true, Option, Some, None, refl, ap}
use Rattle.json.specs.Print.{IsNumber}
use Rattle.json.specs.Word.{after_number}
use Rattle.jv_number.specs.Number.{is_nothing, is_number}

nothing_left : (o : Option (List ℕ)) → is_nothing o ≡ true → o ≡ Some []
nothing_left None e = cc
nothing_left (Some []) e = refl
nothing_left (Some (x ∷ xs)) e = cc

pub IsNumber-from_test : (text : List ℕ) → is_number text ≡ true → IsNumber text
IsNumber-from_test text e = nothing_left (after_number text) e

pub is_number-from : (text : List ℕ) → IsNumber text → is_number text ≡ true
is_number-from text n = ap is_nothing n
