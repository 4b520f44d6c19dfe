-- The kind of a value as a word, and its negation (manual of jq 1.7, "type", "not").
use Rattle.std.specs.Prelude.{List, [], ◌∷◌, not, codes, Ok}
use Rattle.jv_data.specs.Kind.{kind_name}
use Rattle.jv_data.specs.Value.{Value, string}
use Rattle.jq_natives.specs.Answers.{Answer, yes_or_no, is_true}
use Rattle.jq_natives.specs.declared.native.Native.TheVariants as native
use Rattle.jq_natives.specs.Entries.{NativeEntry, without_arguments}

abbrev pub type_of : Value → Answer
type_of v = Ok (string (kind_name v))

-- true for null and false, and false for every other value
abbrev pub not_of : Value → Answer
not_of v = yes_or_no (not (is_true v))

-- the natives of kinds and truth
abbrev pub kind_natives : List NativeEntry
kind_natives =
    without_arguments (codes "type") native.TypeName type_of
    ∷ without_arguments (codes "not") native.Not not_of
    ∷ []
