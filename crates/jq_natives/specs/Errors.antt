-- The error that a filter raises itself, and that of a value without keys of a kind (manual of jq 1.7, "error(message)", "has(key)").
use Rattle.std.specs.Prelude.{ℕ, List, [], ◌∷◌, ◌++◌, codes, Err}
use Rattle.jv_data.specs.Kind.{kind_name}
use Rattle.jv_data.specs.Value.{Value}
use Rattle.jq_natives.specs.Answers.{Answer}
use Rattle.jq_natives.specs.declared.native.Native.TheVariants as native
use Rattle.jq_natives.specs.Entries.{NativeEntry, with_one}

abbrev pub error_of : Value → Value → Answer
error_of v message = Err message

-- a value has no key of this kind
abbrev pub cannot_check : Value → Value → List ℕ
cannot_check v k = codes "Cannot check whether " ++ (kind_name v ++ (codes " has a " ++ (kind_name k ++ codes " key")))

-- the native of errors
abbrev pub error_natives : List NativeEntry
error_natives = with_one (codes "error") native.Error error_of ∷ []
