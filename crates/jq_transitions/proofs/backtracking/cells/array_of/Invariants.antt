use Rattle.std.proofs.Common.{◌≡◌, map}
use Rattle.jv_data.specs.View.{view}
use Rattle.jq_meaning.specs.Runs.{value_in}
use Rattle.jq_state.specs.Items.{item_of}
use Rattle.jq_transitions.proofs.backtracking.cells.array_of.Given as goal

-- the values so far are those of the items so far
abbrev pub invariant-loop-item : goal.invariant-loop-item
invariant-loop-item l = map view l.values.items ≡ map value_in (map item_of l.yielded)
