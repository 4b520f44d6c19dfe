-- Texts that are appended to a string.
use Rattle.std.specs.Prelude.{◌≡◌, ℕ, List, ◌++◌, Result, Ok, Err, MatchResult, String}
use Rattle.std.specs.declared.alloc.Global.{Global}
use Rattle.jv_data.specs.Fails.{FailsAs}
use Rattle.jv_data.specs.Text.{text_of}
use Rattle.jv_data.specs.declared.failures.Fail.{Fail}
use Rattle.jv_text.specs.Formats.{Text}

-- a text after another
abbrev pub appended : List ℕ → Text → Text
appended made (Ok s) = Ok (made ++ s)
appended made (Err e) = Err e

-- a call appends this text, or raises this error, or memory ran out
abbrev pub Appends : {A : Type 0} → Result A Fail → String Global → String Global → Text → Type 0
Appends result old new text = MatchResult result (λ _. appended (text_of old) text ≡ Ok (text_of new)) (λ f. FailsAs f text)
