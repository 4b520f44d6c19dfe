-- The arguments of `range`.
use Rattle.std.specs.Prelude.{[], ◌∷◌}
use Rattle.jv_data.specs.Value.{Value}
use Rattle.jq_meaning.specs.Builtins.{range_of}
use Rattle.jq_meaning.specs.Runs.{Item, Run}

-- with three bounds
abbrev pub range_by : Value → Value → Value → Run Item
range_by start end step = range_of (start ∷ end ∷ step ∷ [])
