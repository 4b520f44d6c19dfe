-- A run does not end in a break.
use Rattle.std.specs.Prelude.{⊤}
use Rattle.jq_meaning.specs.Runs.{Ending, Done, Raised, Broken, Stopped}

abbrev pub IsNoBreak : Ending → Type 0
IsNoBreak Done = ⊤
IsNoBreak (Raised v) = ⊤
IsNoBreak (Broken level) = ⊥
IsNoBreak (Stopped stop) = ⊤
