-- Why a call on values failed. The definition of such a call's result is a `Result`, whose `Err` is the raised value.
use Rattle.std.specs.Prelude.{◌≡◌, ℕ, List, ◌++◌, codes, Result, Ok, Err, MatchResult}
use Rattle.jv_data.specs.Kind.{kind_name}
use Rattle.jv_data.specs.Value.{Value, string}
use Rattle.jv_data.specs.View.{view}
use Rattle.jv_data.specs.declared.values.Val.{Val}
use Rattle.jv_data.specs.declared.failures.Fail.{Fail}
use Rattle.jv_data.specs.declared.failures.Fail.TheVariants.{Raised, NoMemory}

-- the failure is the error of this result, or memory ran out
abbrev pub FailsAs : {A : Type 0} → Fail → Result A Value → Type 0
FailsAs (Raised v) r = r ≡ Err (view v)
FailsAs NoMemory r = Unit {0}

-- the result of a call is the expected value or error, or memory ran out
abbrev pub AnswersAs : Result Val Fail → Result Value Value → Type 0
AnswersAs result expected = MatchResult result (λ v. expected ≡ Ok (view v)) (λ f. FailsAs f expected)

-- an error is a string: its text
abbrev pub raised : List ℕ → Result Value Value
raised text = Err (string text)

-- an error whose text begins with the kind of the value at fault
abbrev pub raised_kind : {A : Type 0} → Value → List ℕ → Result A Value
raised_kind v text = Err (string (kind_name v ++ text))

-- the kinds of two values, and then a text
abbrev pub kinds_then : Value → Value → List ℕ → List ℕ
kinds_then v w text = kind_name v ++ (codes " and " ++ (kind_name w ++ text))

-- an error whose text begins with the kinds of two values
abbrev pub raised_kinds : {A : Type 0} → Value → Value → List ℕ → Result A Value
raised_kinds v w text = Err (string (kinds_then v w text))
