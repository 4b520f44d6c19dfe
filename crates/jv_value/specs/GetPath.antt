-- The value at a path (manual of jq 1.7, "getpath(PATHS)").
use Rattle.std.specs.Prelude.{List, [], ◌∷◌, Bool, true, false, Result, Ok, if◌then◌else◌}
use Rattle.jv_data.specs.Value.{Value, null}
use Rattle.jv_value.specs.Index.{index_of}
use Rattle.jv_value.specs.Results.{and_then}

abbrev pub is_null : Value → Bool
is_null null = true
is_null v = false

-- key by key; if a part is null, the result is null, for any remaining keys
abbrev pub getpath_of : Value → List Value → Result Value Value
getpath_of v [] = Ok v
getpath_of v (k ∷ ks) = if is_null v then Ok null else and_then (index_of v k) (λ part. getpath_of part ks)
