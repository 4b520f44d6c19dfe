use Rattle.std.proofs.Common.{◌≡◌, ◌≤◌, ◌++◌, drop}
use Rattle.jv_data.proofs.shared.Depths.{depth_under}
use Rattle.jv_data.specs.Held.{members_in}
use Rattle.jv_data.specs.Shared.{entries_in}
use Rattle.jv_data.specs.View.{items_view, members_view}
use Rattle.jv_text.specs.PrintedTokens.{tokens_of_items, tokens_of_members}
use Rattle.jv_text.proofs.printing.+writing.Given as goal

abbrev pub invariant-write_items-loop-item : goal.invariant-write_items-loop-item
invariant-write_items-loop-item g l =
    (g.W.Tokens.before l.out ≡ g.W.Tokens.before l.initial.out)
    × (g.W.Tokens.written l.out ++ tokens_of_items (items_view (drop l.item-index l.items)) ≡ g.W.Tokens.written l.initial.out ++ tokens_of_items (items_view l.items))

abbrev pub invariant-write_members-loop-key : goal.invariant-write_members-loop-key
invariant-write_members-loop-key g l =
    (g.W.Tokens.before l.out ≡ g.W.Tokens.before l.initial.out)
    × (g.W.Tokens.written l.out ++ tokens_of_members (members_view l.key-iterator) ≡ g.W.Tokens.written l.initial.out ++ tokens_of_members (members_in l.members))
    × (depth_under l.key-iterator ≤ depth_under (entries_in l.members))
