use Rattle.std.proofs.Common.{◌≡◌, ◌++◌, map, take}
use Rattle.jv_data.specs.View.{view}
use Rattle.jq_session.proofs.listing.add_copies.Given as goal

abbrev pub invariant-loop-value : goal.invariant-loop-value
invariant-loop-value l = map view l.inputs.items ≡ map view l.fn.inputs.items ++ map view (take l.value-index l.values)
