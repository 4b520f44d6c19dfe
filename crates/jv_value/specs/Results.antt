-- Calls that may raise, one after another.
use Rattle.std.specs.Prelude.{Result, Ok, Err}
use Rattle.jv_data.specs.Value.{Value}

-- the first call, and then the next one with its result
abbrev pub and_then : {A B : Type 0} → Result A Value → (A → Result B Value) → Result B Value
and_then (Ok a) f = f a
and_then (Err e) f = Err e

abbrev pub map_ok : {A B : Type 0} → (A → B) → Result A Value → Result B Value
map_ok f (Ok a) = Ok (f a)
map_ok f (Err e) = Err e
