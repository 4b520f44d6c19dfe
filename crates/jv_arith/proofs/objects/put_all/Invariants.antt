use Rattle.std.proofs.Common.{◌≡◌}
use Rattle.jv_data.specs.Held.{members_in}
use Rattle.jv_data.specs.View.{members_view}
use Rattle.jv_arith.proofs.Unions.{put_all}
use Rattle.jv_arith.specs.Objects.{union}
use Rattle.jv_arith.proofs.objects.put_all.Given as goal

-- the result depends on the members that are still to be put
abbrev pub invariant-loop-key : goal.invariant-loop-key
invariant-loop-key l = union (members_in l.initial.left) (members_in l.right) ≡ put_all (members_in l.left) (members_view l.key-iterator)
