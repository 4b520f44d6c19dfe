use Rattle.std.proofs.Common.{◌≡◌, ◌++◌, ◌∷◌, [], length, map, option_map, reverse}
use Rattle.std.specs.Prelude.{zip}
use Rattle.jv_data.specs.Value.{Value}
use Rattle.jv_data.specs.View.{view}
use Rattle.jq_meaning.specs.Runs.{Item}
use Rattle.jq_state.specs.Items.{item_at, item_of, keys_of}
use Rattle.jq_state.specs.declared.items.Path.{Path}
use Rattle.jq_operations.proofs.parts.located_items.Given as goal

abbrev pub located : Path → (Value × Value) → Item
located path p = item_at p.1 (option_map (λ ks. ks ++ p.0 ∷ []) (keys_of path))

-- what is left comes in front of what was made
abbrev pub invariant-loop-key : goal.invariant-loop-key
invariant-loop-key l = record {
  paired : length l.keys.items ≡ length l.parts.items;
  made : map (located l.path) (zip (map view l.initial.keys.items) (map view l.initial.parts.items)) ≡ map (located l.path) (zip (map view l.keys.items) (map view l.parts.items)) ++ reverse (map item_of l.items.items);
}

abbrev pub decreases-loop-key : goal.decreases-loop-key
decreases-loop-key l = length l.parts.items
