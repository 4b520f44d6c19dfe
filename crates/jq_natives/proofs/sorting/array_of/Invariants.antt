use Rattle.std.proofs.Common.{◌≡◌, ◌++◌, length, map}
use Rattle.std.specs.Vec.Iter.{into_iter_items, into_iter_len}
use Rattle.jv_data.specs.View.{view}
use Rattle.jq_natives.specs.private.SortedItems.{pair_of}
use Rattle.jq_natives.specs.Sorting.{kept_item}
use Rattle.jq_natives.proofs.sorting.array_of.Given as goal

-- the result depends only on what is left
abbrev pub invariant-loop-pair : goal.invariant-loop-pair
invariant-loop-pair l =
    (into_iter_len l.pair-iterator ≡ length (into_iter_items l.pair-iterator))
    × (map kept_item (map pair_of l.fn.keyed.items) ≡ map view l.items.items ++ map kept_item (map pair_of (into_iter_items l.pair-iterator)))
