use Rattle.std.proofs.Common.{drop}
use Rattle.jv_data.specs.private.Slots.{AreSome}
use Rattle.jv_data.proofs.containers.slots.are_some.Given as goal

-- all values are there if those that are left are
abbrev pub invariant-loop-slot : goal.invariant-loop-slot
invariant-loop-slot l = AreSome (drop l.slot-index l.slots) → AreSome l.slots
