use Rattle.std.proofs.Common.{◌≡◌, Equal}
use Rattle.std.specs.Ordering.{ordering_then}
use Rattle.jv_data.specs.private.Pairs.{parts_order}
use Rattle.jv_data.proofs.Pending.{open_order}
use Rattle.jv_data.proofs.pairs.order_in_list.Given as goal

-- the order is that of the pair at hand, and then of the open ones
abbrev pub invariant-loop : goal.invariant-loop
invariant-loop l = parts_order l.fn.first ≡ ordering_then (parts_order l.pair) (open_order l.open.items Equal)
