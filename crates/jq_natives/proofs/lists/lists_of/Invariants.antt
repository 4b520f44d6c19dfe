use Rattle.std.proofs.Common.{◌≡◌, ◌++◌, drop}
use Rattle.std.specs.Prelude.{option_map}
use Rattle.jv_data.specs.View.{items_view}
use Rattle.jq_natives.specs.Lists.{lists_of}
use Rattle.jq_natives.specs.private.Lists.{lists_in}
use Rattle.jq_natives.proofs.lists.lists_of.Given as goal

-- the result depends only on what is left
abbrev pub invariant-loop-item : goal.invariant-loop-item
invariant-loop-item l = lists_of (items_view l.items) ≡ option_map (λ ls. lists_in l.lists.items ++ ls) (lists_of (items_view (drop l.item-index l.items)))
