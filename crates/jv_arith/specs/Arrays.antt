-- Arrays under `+` and `-`.
use Rattle.std.specs.Prelude.{List, ◌++◌, Bool, not, filter}
use Rattle.std.specs.List.{list_any}
use Rattle.std.specs.Ordering.{is_eq}
use Rattle.jv_data.specs.Value.{Value, Items, items_of, values_of, compare}

abbrev pub joined : Items → Items → Items
joined vs ws = items_of (values_of vs ++ values_of ws)

-- some item of ws equals v
abbrev pub is_among : List Value → Value → Bool
is_among ws v = list_any (λ w. is_eq (compare w v)) ws

-- the items that are equal to none of ws
abbrev pub left_over : Items → Items → Items
left_over vs ws = items_of (filter (λ v. not (is_among (values_of ws) v)) (values_of vs))
