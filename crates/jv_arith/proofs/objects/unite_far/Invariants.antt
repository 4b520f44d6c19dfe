use Rattle.std.proofs.Common.{◌≡◌}
use Rattle.jv_data.specs.Held.{members_in}
use Rattle.jv_arith.specs.Objects.{deep_union}
use Rattle.jv_arith.specs.private.Uniting.{leads_to}
use Rattle.jv_arith.proofs.Uniting.{after_all}
use Rattle.jv_arith.proofs.objects.unite_far.Given as goal

-- what the step leads to, and then the open unions, is the union
abbrev pub invariant-loop : goal.invariant-loop
invariant-loop l = after_all l.open.items (leads_to l.step) ≡ deep_union (members_in l.fn.left) (members_in l.right)
