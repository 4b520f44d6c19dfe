use Rattle.std.proofs.Common.{◌≡◌, ◌++◌, map, option_map, take}
use Rattle.jv_data.specs.View.{view}
use Rattle.jq_state.specs.Items.{keys_of}
use Rattle.jq_operations.proofs.builtins.with_keys.Given as goal

abbrev pub invariant-loop-key : goal.invariant-loop-key
invariant-loop-key l = keys_of l.path ≡ option_map (λ ks. ks ++ map view (take l.key-index l.keys)) (keys_of l.initial.path)
