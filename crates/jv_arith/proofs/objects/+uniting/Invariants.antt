use Rattle.std.proofs.Common.{◌≡◌, ◌+◌, ◌*◌}
use Rattle.jv_data.specs.Held.{members_in}
use Rattle.jv_data.specs.View.{members_view}
use Rattle.jv_arith.specs.Objects.{deep_union}
use Rattle.jv_arith.specs.private.Uniting.{unite_all}
use Rattle.jv_arith.proofs.objects.+uniting.Given as goal

abbrev pub decreases-unite_near : goal.decreases-unite_near
decreases-unite_near l = 2 * l.levels

abbrev pub decreases-united_near : goal.decreases-united_near
decreases-united_near l = 2 * l.levels + 1

-- the result depends on the members that are still to be united
abbrev pub invariant-unite_near-loop-key : goal.invariant-unite_near-loop-key
invariant-unite_near-loop-key l = deep_union (members_in l.initial.members) (members_in l.right) ≡ unite_all (members_in l.members) (members_view l.key-iterator)
