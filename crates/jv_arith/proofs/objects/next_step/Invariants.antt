use Rattle.std.proofs.Common.{◌≡◌, length}
use Rattle.jv_data.specs.Held.{members_in}
use Rattle.jv_data.specs.View.{members_view}
use Rattle.jv_arith.specs.private.Uniting.{unite_all}
use Rattle.jv_arith.proofs.objects.next_step.Given as goal

-- the result depends on the members that are still to be united
abbrev pub invariant-loop-key : goal.invariant-loop-key
invariant-loop-key l = unite_all (members_in l.members) (members_view l.rest) ≡ unite_all (members_in l.fn.left) (members_view l.fn.right)

abbrev pub decreases-loop-key : goal.decreases-loop-key
decreases-loop-key l = length l.rest
