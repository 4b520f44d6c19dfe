-- How variables are taken out of words, and the fault for an error of `clap`.
use Rattle.std.specs.Prelude.{◌≡◌, ◌≢◌, ◌<◌, ◌++◌, List, [], ◌∷◌, length, Option, Some, None, Result, Ok, Err, String, string_bytes, if◌then◌else◌}
use Rattle.std.specs.List.{list_any}
use Rattle.std.specs.Str.{bytes_eq}
use Rattle.std.specs.declared.alloc.Global.{Global}
use Rattle.clap.specs.Words.{Text}
use Rattle.clap.specs.declared.error.kind.ErrorKind.{ErrorKind}
use Rattle.clap.specs.declared.error.kind.ErrorKind.TheVariants.{DisplayHelp, DisplayVersion, OutOfMemory}
use Rattle.jq_cli.specs.Pieces.{Variable, is_named, option_word}
use Rattle.jq_cli.specs.declared.faults.UsageFault.{UsageFault}
use Rattle.jq_cli.specs.declared.faults.UsageFault.TheVariants.{Usage, Help, Version, Line, NoMemory}
use Rattle.jq_cli.specs.declared.taking.Kind.{Kind}
use Rattle.jq_cli.specs.declared.taking.Kind.TheVariants as kind

-- the kind of an option: how its value is read; none for another word
abbrev pub kind_of : Text → Option Kind
kind_of word = if bytes_eq word (option_word kind.Text) then Some kind.Text else (if bytes_eq word (option_word kind.Json) then Some kind.Json else None)

-- one more variable, unless there is one with its name
abbrev pub with_first : List Variable → Variable → List Variable
with_first vs v = if list_any (is_named v.0) vs then vs else vs ++ v ∷ []

-- this value, or `Usage` if there is none
abbrev pub Answers : {A B : Type 0} → (A → B) → Result A UsageFault → Option B → Type 0
Answers f (Ok v) o = o ≡ Some (f v)
Answers f (Err Usage) o = o ≡ None
Answers f (Err Help) o = ⊥
Answers f (Err Version) o = ⊥
Answers f (Err (Line text)) o = ⊥
Answers f (Err NoMemory) o = Unit {0}

-- the first two words and those after them, or `Usage` if there are fewer
abbrev pub TakesTwo : Result (String Global × String Global) UsageFault → (before after : List Text) → Type 0
TakesTwo (Ok (first, second)) before after = before ≡ string_bytes first ∷ string_bytes second ∷ after
TakesTwo (Err Usage) before after = length before < 2
TakesTwo (Err Help) before after = ⊥
TakesTwo (Err Version) before after = ⊥
TakesTwo (Err (Line text)) before after = ⊥
TakesTwo (Err NoMemory) before after = ⊥

-- the fault for an error of `clap` of this kind
abbrev pub IsFaultOf : ErrorKind → UsageFault → Type 0
IsFaultOf kind Usage = ⊥
IsFaultOf kind Help = kind ≡ DisplayHelp
IsFaultOf kind Version = kind ≡ DisplayVersion
IsFaultOf kind (Line text) = (kind ≢ OutOfMemory) × (kind ≢ DisplayHelp) × (kind ≢ DisplayVersion)
IsFaultOf kind NoMemory = Unit {0}
