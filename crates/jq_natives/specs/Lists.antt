-- Arrays of arrays.
use Rattle.std.specs.Prelude.{List, [], ◌∷◌, Option, Some, None, option_map}
use Rattle.jv_data.specs.Value.{Value, array, Items, no_items, item, values_of}

-- the items of each item, if each is an array
abbrev pub lists_of : Items → Option (List (List Value))
lists_of no_items = Some []
lists_of (item (array vs) rest) = option_map (λ ls. values_of vs ∷ ls) (lists_of rest)
lists_of (item v rest) = None
