-- Places in the tokens of a text.
use Rattle.std.specs.Prelude.{ℕ, ◌+◌, ◌-◌, ◌^◌, min, List, [], ◌∷◌, ◌++◌, replicate}
use Rattle.json.specs.Layout.{Last, nothing, bracket, name, value}
use Rattle.json.specs.Token.{Token, begin_array, key, null}
use Rattle.jv_text.specs.declared.places.Place.{Place}
use Rattle.jv_text.specs.declared.places.Place.TheVariants.{Nothing, Bracket, Key, Value}

-- what was written last there, and how many arrays and objects are open
abbrev pub place_of : Place → Last × ℕ
place_of Nothing = (nothing, 0)
place_of (Bracket depth) = (bracket, min (depth + 1) (2 ^ 64 - 1))
place_of (Key depth) = (name, depth)
place_of (Value depth) = (value, depth)

-- tokens that lead there from the start
abbrev pub replayed : Place → List Token
replayed Nothing = []
replayed (Bracket depth) = replicate depth begin_array ++ begin_array ∷ []
replayed (Key depth) = replicate depth begin_array ++ key [] ∷ []
replayed (Value depth) = replicate depth begin_array ++ null ∷ []
