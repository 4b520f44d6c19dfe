-- The parts of a value (manual of jq 1.7, "Array/Object Value Iterator").
use Rattle.std.specs.Prelude.{List, map, Result, Ok, Err}
use Rattle.jv_data.specs.Value.{Value, string, array, object, values_of, entries_of}
use Rattle.jv_value.specs.ErrorTexts.{cannot_iterate}

-- an array's items, and an object's values in the order of their keys
abbrev pub parts_of : Value → Result (List Value) Value
parts_of (array vs) = Ok (values_of vs)
parts_of (object ms) = Ok (map (λ e. e.1) (entries_of ms))
parts_of v = Err (string (cannot_iterate v))
