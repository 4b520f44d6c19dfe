-- The runs of bytes that are numbers.
use Rattle.std.specs.Prelude.{◌≡◌, ℕ, ◌<◌, ◌≤◌, length, get_or, ℤ, Bool, ◌==◌, List, Option, Some, None, Result, Ok, Err}
use Rattle.std.specs.Fmt.{signed_decimal}
use Rattle.std.specs.Str.Parse.{AllDigits, digits_value}
use Rattle.jv_text.specs.private.Unreadable.{FailsToRead}
use Rattle.jv_text.specs.declared.reading.Unread.{Unread}
use Rattle.jv_text.specs.Numbers.{run_text}

abbrev pub is_minus : ℕ → Bool
is_minus x = x == 45

-- at most 18 digits, with no leading zero
pub record AreShort (ds : List ℕ) : Type 0 where
  pub some : 0 < length ds
  pub few : length ds ≤ 18
  pub lead : get_or ds 0 0 ≡ 48 → length ds ≡ 1
  pub digits : AllDigits 10 ds

-- at most 18 digits, and their value
pub record IsShort (ds : List ℕ) (n : ℕ) : Type 0 where
  pub short : AreShort ds
  pub value : n ≡ digits_value 10 ds

-- the value of a run that is a number, or None
abbrev pub NumberIs : Result (Option ℤ) Unread → List ℕ → Type 0
NumberIs (Ok None) run = run_text run ≡ Some run
NumberIs (Ok (Some n)) run = run_text run ≡ Some (signed_decimal n)
NumberIs (Err e) run = FailsToRead e (run_text run)
