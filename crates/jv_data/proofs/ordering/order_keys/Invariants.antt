use Rattle.std.proofs.Common.{◌≡◌}
use Rattle.std.specs.Cmp.Lexicographic.{slice_cmp}
use Rattle.jv_data.specs.Held.{members_in}
use Rattle.jv_data.specs.View.{members_view}
use Rattle.jv_data.specs.Value.{keys, text_cmp}
use Rattle.jv_data.proofs.ordering.order_keys.Given as goal

-- the result depends on the remaining keys
abbrev pub invariant-loop-key : goal.invariant-loop-key
invariant-loop-key l = slice_cmp text_cmp (keys (members_in l.left)) (keys (members_in l.right)) ≡ slice_cmp text_cmp (keys (members_view l.key-iterator)) (keys (members_view l.others))
