use Rattle.std.proofs.Common.{◌≡◌, ◌++◌, drop, map}
use Rattle.jv_data.specs.View.{view}
use Rattle.jq_natives.specs.private.SortedItems.{in_array}
use Rattle.jq_natives.proofs.sorting.only_items.Given as goal

-- the result depends only on what is left
abbrev pub invariant-loop-key : goal.invariant-loop-key
invariant-loop-key l = map view l.keys ≡ map in_array (map view l.items.items) ++ map view (drop l.key-index l.keys)
