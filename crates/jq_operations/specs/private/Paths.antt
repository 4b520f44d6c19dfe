-- Paths that are extended.
use Rattle.std.specs.Prelude.{List, [], ◌∷◌, ◌++◌, Option, option_map}
use Rattle.jv_data.specs.Value.{Value}
use Rattle.jq_meaning.specs.Builtins.{values_in_array}

-- the keys, followed by those in the path argument
abbrev pub path_with : Option (List Value) → (arguments : List Value) → Option (List Value)
path_with path [] = path
path_with path (p ∷ vs) = option_map (λ ks. ks ++ values_in_array p) path
