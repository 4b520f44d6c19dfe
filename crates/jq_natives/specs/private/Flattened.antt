-- What flattening an array does with one of its items.
use Rattle.std.specs.Prelude.{◌≡◌, ℕ, ◌∷◌}
use Rattle.jv_data.specs.Value.{Value, Items, item}
use Rattle.jq_natives.specs.Arrays.{opened}

-- An array that is flattened to these levels keeps the value as one of its items.
abbrev pub StaysWhole : (levels : ℕ) → Value → Type 0
StaysWhole levels v = (rest : Items) → opened levels (item v rest) ≡ v ∷ opened levels rest
