use Rattle.std.proofs.Common.{◌≡◌, ◌++◌, length, map, reverse}
use Rattle.jv_data.specs.View.{view}
use Rattle.jq_meaning.specs.Runs.{plain}
use Rattle.jq_state.specs.Items.{item_of}
use Rattle.jq_operations.proofs.parts.plain_items.Given as goal

-- what is left comes in front of what was made
abbrev pub invariant-loop-part : goal.invariant-loop-part
invariant-loop-part l = map plain (map view l.initial.parts.items) ≡ map plain (map view l.parts.items) ++ reverse (map item_of l.items.items)

abbrev pub decreases-loop-part : goal.decreases-loop-part
decreases-loop-part l = length l.parts.items
