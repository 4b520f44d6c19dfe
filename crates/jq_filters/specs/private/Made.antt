-- The runs that are made: none comes after one that halts.
use Rattle.std.specs.Prelude.{◌≡◌, ℕ, List, Some}
use Rattle.jq_meaning.specs.Runs.{Run, Item}
use Rattle.jq_filters.specs.Outcomes.{up_to_halt, first_halt}

-- No run but the last one halts.
abbrev pub MayBeMade : List (Run Item) → Type 0
MayBeMade runs = up_to_halt runs ≡ runs

-- The last run halts with this status, and no other one does.
pub record EndsInHalt (status : ℕ) (runs : List (Run Item)) : Type 0 where
  pub made : MayBeMade runs
  pub halts : first_halt runs ≡ Some status
