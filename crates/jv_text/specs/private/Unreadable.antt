-- What a call answers that reads a text.
use Rattle.std.specs.Prelude.{◌≡◌, Option, Some, None, Result, Ok, Err}
use Rattle.jv_text.specs.declared.reading.Unread.{Unread}
use Rattle.jv_text.specs.declared.reading.Unread.TheVariants.{NoValue, NoMemory}

-- there is no such value, or memory ran out
abbrev pub FailsToRead : {A : Type 0} → Unread → Option A → Type 0
FailsToRead NoValue read = read ≡ None
FailsToRead NoMemory read = Unit {0}

-- the result, seen through f, is the definition's value
abbrev pub Reads : {A B : Type 0} → (A → B) → Result A Unread → Option B → Type 0
Reads f (Ok v) read = read ≡ Some (f v)
Reads f (Err e) read = FailsToRead e read
