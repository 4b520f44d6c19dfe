use Rattle.std.proofs.Common.{◌≡◌, ◌++◌, length, map, option_map}
use Rattle.std.specs.Map.{keys_of}
use Rattle.std.specs.Vec.Iter.{into_iter_items, into_iter_len}
use Rattle.serde_json.specs.View.{items_view as data_items, members_view as data_members}
use Rattle.jv_data.specs.View.{view}
use Rattle.jv_text.specs.Json.{items_of, members_of}
use Rattle.jv_text.proofs.Fronts.{before_items, before_members}
use Rattle.jv_text.proofs.reading.+converting.Given as goal

abbrev pub invariant-items_of-loop-item : goal.invariant-items_of-loop-item
invariant-items_of-loop-item l =
    (into_iter_len l.item-iterator ≡ length (into_iter_items l.item-iterator))
    × (option_map (before_items (map view l.values.items)) (items_of (data_items (into_iter_items l.item-iterator))) ≡ items_of (data_items l.fn.items.items))

abbrev pub invariant-members_of-loop-key : goal.invariant-members_of-loop-key
invariant-members_of-loop-key l =
    (keys_of l.fn.members.entries ≡ keys_of l.values.entries ++ keys_of l.key-iterator)
    × (option_map (before_members l.values.entries) (members_of (data_members l.key-iterator)) ≡ members_of (data_members l.fn.members.entries))
