-- An entry of the table of natives: a name, a number of arguments, the native that they mean, and what it answers.
-- The natives of a subject have their entries in its file.
use Rattle.std.specs.Prelude.{ℕ, List, [], ◌∷◌, Err}
use Rattle.jv_data.specs.Value.{Value, null}
use Rattle.jq_natives.specs.declared.native.Native.{Native}
use Rattle.jq_natives.specs.Answers.{Answer}

pub record NativeEntry : Type 0 where
  pub name : List ℕ
  pub arguments : ℕ
  pub means : Native
  pub answers : Value → List Value → Answer

-- What is answered to 0, 1 or 2 arguments; another number of arguments raises null.

abbrev pub answer_to_none : (Value → Answer) → Value → List Value → Answer
answer_to_none answer v [] = answer v
answer_to_none answer v other = Err null

abbrev pub answer_to_one : (Value → Value → Answer) → Value → List Value → Answer
answer_to_one answer v (a ∷ []) = answer v a
answer_to_one answer v other = Err null

abbrev pub answer_to_two : (Value → Value → Value → Answer) → Value → List Value → Answer
answer_to_two answer v (a ∷ b ∷ []) = answer v a b
answer_to_two answer v other = Err null

-- The entry of a native with 0, 1 or 2 arguments.

abbrev pub without_arguments : List ℕ → Native → (Value → Answer) → NativeEntry
without_arguments name f answer = record { name = name; arguments = 0; means = f; answers = answer_to_none answer }

abbrev pub with_one : List ℕ → Native → (Value → Value → Answer) → NativeEntry
with_one name f answer = record { name = name; arguments = 1; means = f; answers = answer_to_one answer }

abbrev pub with_two : List ℕ → Native → (Value → Value → Value → Answer) → NativeEntry
with_two name f answer = record { name = name; arguments = 2; means = f; answers = answer_to_two answer }
