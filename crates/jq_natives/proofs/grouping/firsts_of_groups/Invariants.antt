use Rattle.std.proofs.Common.{◌≡◌, ◌++◌, length, map}
use Rattle.std.specs.Vec.Iter.{into_iter_items, into_iter_len}
use Rattle.jv_data.specs.View.{view}
use Rattle.jq_natives.specs.private.SortedItems.{groups_in}
use Rattle.jq_natives.specs.Sorting.{first_of_group}
use Rattle.jq_natives.proofs.grouping.firsts_of_groups.Given as goal

-- the result depends only on what is left
abbrev pub invariant-loop-group : goal.invariant-loop-group
invariant-loop-group l =
    (into_iter_len l.group-iterator ≡ length (into_iter_items l.group-iterator))
    × (map first_of_group (groups_in l.fn.groups.items) ≡ map view l.items.items ++ map first_of_group (groups_in (into_iter_items l.group-iterator)))
