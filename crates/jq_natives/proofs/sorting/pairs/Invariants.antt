use Rattle.std.proofs.Common.{◌≡◌, ◌++◌, length, map}
use Rattle.std.specs.Prelude.{zip}
use Rattle.std.specs.Vec.Iter.{into_iter_items, into_iter_len}
use Rattle.jv_data.specs.View.{view}
use Rattle.jq_natives.specs.private.SortedItems.{pair_of}
use Rattle.jq_natives.proofs.sorting.pairs.Given as goal

-- the result depends only on what is left
abbrev pub invariant-loop-key : goal.invariant-loop-key
invariant-loop-key l = record {
  keys : into_iter_len l.key-iterator ≡ length (into_iter_items l.key-iterator);
  items : into_iter_len l.others ≡ length (into_iter_items l.others);
  pairs : zip (map view l.fn.keys.items) (map view l.fn.items.items) ≡ map pair_of l.pairs.items ++ zip (map view (into_iter_items l.key-iterator)) (map view (into_iter_items l.others));
}
