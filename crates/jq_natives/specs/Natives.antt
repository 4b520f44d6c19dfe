-- The natives by name and number of arguments, and what each answers. An entry is in the file of its subject.
use Rattle.std.specs.Prelude.{ℕ, List, [], ◌∷◌, ◌++◌, Bool, ◌&&◌, bytes_eq, nat_eq, if◌then◌else◌, Option, Some, None, Err}
use Rattle.jv_data.specs.Value.{Value, null}
use Rattle.jq_natives.specs.declared.native.Native.{Native}
use Rattle.jq_natives.specs.declared.native.Native.TheVariants as native
use Rattle.jq_natives.specs.contracts.native.NativePartialEq.TheImpl as native_eq
use Rattle.jq_natives.specs.Answers.{Answer}
use Rattle.jq_natives.specs.Entries.{NativeEntry, answer_to_none}
use Rattle.jq_natives.specs.Formats.{formatted}
use Rattle.jq_natives.specs.Sizes.{size_natives}
use Rattle.jq_natives.specs.Kinds.{kind_natives}
use Rattle.jq_natives.specs.Containment.{containment_natives}
use Rattle.jq_natives.specs.Texts.{text_natives}
use Rattle.jq_natives.specs.Reading.{reading_natives}
use Rattle.jq_natives.specs.Arrays.{array_natives}
use Rattle.jq_natives.specs.Searching.{searching_natives}
use Rattle.jq_natives.specs.Sorting.{sorting_natives}
use Rattle.jq_natives.specs.PathNatives.{path_natives}
use Rattle.jq_natives.specs.Errors.{error_natives}

abbrev pub table : List NativeEntry
table = size_natives ++ kind_natives ++ containment_natives ++ text_natives ++ reading_natives ++ array_natives ++ searching_natives
    ++ sorting_natives ++ path_natives ++ error_natives

abbrev pub native_in : List NativeEntry → List ℕ → ℕ → Option Native
native_in [] name arguments = None
native_in (r ∷ rs) name arguments =
    if bytes_eq name r.name && nat_eq arguments r.arguments then Some r.means else native_in rs name arguments

-- the native with this name and this number of arguments
abbrev pub native_named : List ℕ → ℕ → Option Native
native_named = native_in table

-- whether two natives are one: their derived `==`
abbrev pub same_native : Native → Native → Bool
same_native = (native_eq.ghosts).eq

abbrev pub answer_in : List NativeEntry → Native → Value → List Value → Answer
answer_in [] f v arguments = Err null
answer_in (r ∷ rs) f v arguments = if same_native r.means f then r.answers v arguments else answer_in rs f v arguments

-- what a native answers for an input and its arguments: that of its entry, or the text in a format
abbrev pub answer_of_native : Native → (input : Value) → (arguments : List Value) → Answer
answer_of_native (native.Format f) v arguments = answer_to_none (formatted f) v arguments
answer_of_native f v arguments = answer_in table f v arguments
