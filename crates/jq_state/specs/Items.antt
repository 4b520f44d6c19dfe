-- The item of the meaning that an item represents.
use Rattle.std.specs.Prelude.{List, [], Option, Some, None}
use Rattle.jv_data.specs.Held.{values_in}
use Rattle.jv_data.specs.Value.{Value}
use Rattle.jv_data.specs.View.{view}
use Rattle.jq_meaning.specs.Runs.{plain, located}
use Rattle.jq_meaning.specs.Runs as runs
use Rattle.jq_state.specs.declared.items.Item.{Item}
use Rattle.jq_state.specs.declared.items.Path.{Path}
use Rattle.jq_state.specs.declared.items.Path.TheVariants as path

abbrev pub keys_of : Path → Option (List Value)
keys_of path.Absent = None
keys_of path.Empty = Some []
keys_of (path.Keys ks) = Some (values_in ks)

abbrev pub item_at : Value → Option (List Value) → runs.Item
item_at v None = plain v
item_at v (Some ks) = located v ks

abbrev pub item_of : Item → runs.Item
item_of x = item_at (view x.value) (keys_of x.path)
