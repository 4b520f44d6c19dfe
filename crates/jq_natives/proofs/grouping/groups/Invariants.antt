use Rattle.std.proofs.Common.{◌≡◌, ◌++◌, length, map}
use Rattle.std.specs.Vec.Iter.{into_iter_items, into_iter_len}
use Rattle.jq_natives.specs.private.SortedItems.{groups_in, pair_of}
use Rattle.jq_natives.specs.Sorting.{groups}
use Rattle.jq_natives.proofs.Groups.{HaveOneKey}
use Rattle.jq_natives.proofs.grouping.groups.Given as goal

-- the result depends only on what is left
abbrev pub invariant-loop-pair : goal.invariant-loop-pair
invariant-loop-pair l = record {
  left : into_iter_len l.pair-iterator ≡ length (into_iter_items l.pair-iterator);
  one_key : HaveOneKey (map pair_of l.group.items);
  grouped : groups (map pair_of l.fn.sorted.items) ≡ groups_in l.groups.items ++ groups (map pair_of l.group.items ++ map pair_of (into_iter_items l.pair-iterator));
}
