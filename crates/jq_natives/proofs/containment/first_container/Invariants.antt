use Rattle.std.proofs.Common.{◌≡◌, length}
use Rattle.std.specs.List.{list_any}
use Rattle.jv_data.specs.View.{items_view, view}
use Rattle.jv_data.specs.Value.{values_of}
use Rattle.jq_natives.specs.Containment.{contained_in}
use Rattle.jq_natives.proofs.containment.first_container.Given as goal

-- the part is in none of the items that were tried
abbrev pub invariant-loop-whole : goal.invariant-loop-whole
invariant-loop-whole l = list_any (contained_in (view l.part)) (values_of (items_view l.wholes)) ≡ list_any (contained_in (view l.part)) (values_of (items_view l.rest))

abbrev pub decreases-loop-whole : goal.decreases-loop-whole
decreases-loop-whole l = length l.rest
