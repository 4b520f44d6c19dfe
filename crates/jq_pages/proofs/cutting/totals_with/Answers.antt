use Rattle.std.proofs.Common.{ℕ, ◌+◌, ◌<◌, ◌≤◌, arith}
use Rattle.jq_pages.proofs.Sums.{pieces_part, room_err, room_failed, room_out}
use Rattle.jq_pages.proofs.cutting.totals_with.Goals as goal

within : (n m : ℕ) → n ≤ m → m < 4294967296 → 1 + n < 18446744073709551616
within n m a b = omega arith

pub and-requires-clause-out : goal.and-requires-clause-out
and-requires-clause-out g c = room_out _ _ 1 _ c.of.ensures.bounded c.totals_before.ensures.bounded (within _ _ (pieces_part c.args.pages.now c.args.j).0 c.requires.few)

pub and-requires-clause-err : goal.and-requires-clause-err
and-requires-clause-err g c = room_err _ _ 1 _ c.of.ensures.bounded c.totals_before.ensures.bounded (within _ _ (pieces_part c.args.pages.now c.args.j).0 c.requires.few)

pub and-requires-clause-failed : goal.and-requires-clause-failed
and-requires-clause-failed g c = room_failed _ _ 1 _ c.of.ensures.bounded c.totals_before.ensures.bounded (within _ _ (pieces_part c.args.pages.now c.args.j).0 c.requires.few)
