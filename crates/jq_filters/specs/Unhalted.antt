-- Filters of which no run halts.
use Rattle.std.specs.Prelude.{◌≡◌, None}
use Rattle.jv_data.specs.Value.{Value}
use Rattle.jq_meaning.specs.Runs.{Run, Item}
use Rattle.jq_filters.specs.Outcomes.{halt_status}

-- No run on a value ends in a halt. (What `inputs` returns does not halt either; it is an argument here.)
abbrev pub NeverHalts : (run : Run Value → Value → Run Item) → Type 0
NeverHalts run = (inputs : Run Value) (v : Value) → halt_status inputs.ending ≡ None → halt_status (run inputs v).ending ≡ None
