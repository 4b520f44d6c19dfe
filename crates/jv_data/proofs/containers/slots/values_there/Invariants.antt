use Rattle.std.proofs.Common.{◌≡◌, ◌++◌, length}
use Rattle.std.specs.Vec.Iter.{into_iter_items, into_iter_len}
use Rattle.jv_data.specs.private.Slots.{values_there}
use Rattle.jv_data.proofs.containers.slots.values_there.Given as goal

abbrev pub invariant-loop-slot : goal.invariant-loop-slot
invariant-loop-slot l =
    (into_iter_len l.slot-iterator ≡ length (into_iter_items l.slot-iterator)) × (values_there l.fn.slots.items ≡ l.values.items ++ values_there (into_iter_items l.slot-iterator))
