-- What is on standard error if notes are asked for.
use Rattle.std.specs.Prelude.{◌≡◌, ℕ, List, Bool, true, false, Option, codes}
use Rattle.std.specs.List.{list_any}
use Rattle.std.specs.Str.{bytes_eq}
use Rattle.clap.specs.Words.{Text}
use Rattle.jq_devices.specs.Notes.{IsNoted}

abbrev pub is_explain : Text → Bool
is_explain word = bytes_eq word (codes "--explain")

-- one of the words is the option
abbrev pub asks_for_notes : List Text → Bool
asks_for_notes words = list_any is_explain words

-- The bytes on standard error: those that were reported, and with the option the same with notes. `failed` says that standard error failed.
abbrev pub IsShown : (asks failed : Bool) → (reported shown : Option (List ℕ)) → Type 0
IsShown false failed reported shown = shown ≡ reported
IsShown true failed reported shown = IsNoted failed reported shown
