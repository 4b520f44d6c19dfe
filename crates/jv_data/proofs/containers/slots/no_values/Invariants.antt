use Rattle.std.proofs.Common.{◌≡◌, length}
use Rattle.jv_data.specs.private.Slots.{AreNone}
use Rattle.jv_data.proofs.containers.slots.no_values.Given as goal

abbrev pub invariant-loop : goal.invariant-loop
invariant-loop l = (length l.values.items ≡ l.counter) × AreNone l.values.items
