use Rattle.std.proofs.Common.{◌≡◌, ◌++◌, length, vec_capacity}
use Rattle.jq_pages.proofs.lists.move_tail.Given as goal

abbrev pub invariant-loop-i : goal.invariant-loop-i
invariant-loop-i g l = record {
  whole : l.from.items ++ l.to.items ≡ l.fn.from.items;
  count : length l.to.items ≡ l._i;
  room : vec_capacity l.to ≡ vec_capacity l.fn.to;
}
