-- What is known of `_modify`, which `f |= g` calls, in the program's own bindings.
use Rattle.std.specs.Prelude.{ℕ, List, Option, Some, None}
use Rattle.jv_data.specs.Value.{Value}
use Rattle.jq_meaning.specs.Programs.{program_env}
use Rattle.jq_meaning.specs.Env.{Binding}
use Rattle.jq_meaning.specs.Runs.{Run}
use Rattle.jq_meaning.specs.updates.Known.{HasModifyOf}

-- The last of so many bindings is the prelude's `_modify`. If no number is given, nothing is known.
abbrev pub KnowsModify : List Binding → Option ℕ → Type 0
KnowsModify bs None = Unit {0}
KnowsModify bs (Some count) = (inputs : Run Value) → HasModifyOf (program_env bs count inputs) (program_env bs count inputs)
