-- The text of a run.
use Rattle.std.proofs.Common.{◌≡◌, ℕ, ℤ, List, true, false, Option, Some, None, option_map, refl, ◌++◌, Ok}
use Rattle.std.proofs.lemmas.Bool.{and_left, and_right, and_from, false_from_ne_true}
use Rattle.std.proofs.lemmas.Str.{IsUtf8-from_is_utf8, is_utf8-from_IsUtf8}
use Rattle.std.specs.Prelude.{◌&&◌, is_some}
use Rattle.std.specs.Fmt.{signed_decimal}
use Rattle.std.specs.Str.{is_utf8, IsUtf8}
use Rattle.json.specs.Print.{IsNumber}
use Rattle.jv_number.specs.Number.{is_number, number_value}
use Rattle.jv_number.specs.laws.Numbers.{TestIsTheGrammar}
use Rattle.jv_text.specs.Numbers.{run_text}
use Rattle.jv_text.specs.private.Runs.{NumberIs}
use Rattle.jv_text.specs.private.Unreadable.{FailsToRead}
use Rattle.jv_text.specs.declared.reading.Unread.{Unread}
use Rattle.jv_text.specs.declared.reading.Unread.TheVariants.{NoValue, NoMemory}
use Rattle.jv_text.proofs.Runs.{not_pushed}

no_number : (run : List ℕ) → (is_utf8 run && is_number run) ≡ false → run_text run ≡ Some run
no_number run e = rw e refl

pub run_no_text : (run : List ℕ) → (IsUtf8 run → ⊥) → run_text run ≡ Some run
run_no_text run h = no_number run (and_left (is_utf8 run) (is_number run) (false_from_ne_true (is_utf8 run) (λ e. h (IsUtf8-from_is_utf8 run e))))

pub run_no_number : TestIsTheGrammar → (run : List ℕ) → (IsNumber run → ⊥) → run_text run ≡ Some run
run_no_number grammar run h = no_number run (and_right (is_utf8 run) (is_number run) (false_from_ne_true (is_number run) (λ e. h ((grammar run).0 e))))

pub run_number : TestIsTheGrammar → (run : List ℕ) → IsUtf8 run → IsNumber run → run_text run ≡ option_map signed_decimal (number_value run)
run_number grammar run u n = let e : (is_utf8 run && is_number run) ≡ true = and_from (is_utf8 run) (is_number run) (is_utf8-from_IsUtf8 run u) ((grammar run).1 n) in rw e refl

pub number_is : (value : Option ℤ) (run : List ℕ) → is_some value ≡ true → run_text run ≡ option_map signed_decimal value → NumberIs (Ok value) run
number_is None run n e = cc
number_is (Some z) run n e = e

pub number_fails : (value : Option ℤ) (run : List ℕ) → is_some value ≡ false → run_text run ≡ option_map signed_decimal value → run_text run ≡ None
number_fails None run n e = e
number_fails (Some z) run n e = cc

-- a run that was not written leaves no text
pub fails_at : (e : Unread) (front : List ℕ) (run whole : Option (List ℕ)) → FailsToRead e (option_map (λ r. front ++ r) run) → (run ≡ None → whole ≡ None) → FailsToRead e whole
fails_at NoValue front run whole f h = h (not_pushed front run f)
fails_at NoMemory front run whole f h = tt
