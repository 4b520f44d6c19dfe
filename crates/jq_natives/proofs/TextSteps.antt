-- Lists that are made from code points, and letters.
use Rattle.std.proofs.Common.{◌≡◌, ◌∙◌, ℕ, List, [], ◌∷◌, ◌++◌, map, arith, sym, ap}
use Rattle.std.proofs.lemmas.List.{map-append}
use Rattle.std.specs.Char.{to_ascii_lowercase, to_ascii_uppercase}
use Rattle.jq_natives.specs.Texts.{ascii_lower, ascii_upper}

-- a list that is made from each code point in turn
pub made_more : {A : Type 0} (f : ℕ → A) (made : List A) (cs : List ℕ) (c : ℕ) → made ≡ map f cs → made ++ f c ∷ [] ≡ map f (cs ++ c ∷ [])
made_more f made cs c e = ap (λ xs. xs ++ f c ∷ []) e ∙ sym (map-append f cs (c ∷ []))

-- letters of ASCII
pub lower_is : (c : ℕ) → to_ascii_lowercase c ≡ ascii_lower c
lower_is c = grind arith

pub upper_is : (c : ℕ) → to_ascii_uppercase c ≡ ascii_upper c
upper_is c = grind arith
