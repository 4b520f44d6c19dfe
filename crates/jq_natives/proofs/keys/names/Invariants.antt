use Rattle.std.proofs.Common.{◌≡◌, ◌++◌, map}
use Rattle.jv_data.specs.Value.{keys, string}
use Rattle.jv_data.specs.Held.{members_in}
use Rattle.jv_data.specs.View.{members_view, view}
use Rattle.jq_natives.proofs.keys.names.Given as goal

-- the result depends only on what is left
abbrev pub invariant-loop-key : goal.invariant-loop-key
invariant-loop-key l = map string (keys (members_in l.members)) ≡ map view l.names.items ++ map string (keys (members_view l.key-iterator))
