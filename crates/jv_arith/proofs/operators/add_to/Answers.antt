use Rattle.std.proofs.Common.{◌≡◌, ap, sym, Ok, rules}
use Rattle.jv_data.specs.Held.{members_in}
use Rattle.jv_data.proofs.shared.Levels.{view-Table}
use Rattle.jv_data.specs.Value.{object}
use Rattle.jv_data.specs.declared.values.Val as val
use Rattle.jv_arith.specs.Objects.{union}
use Rattle.jv_arith.proofs.operators.add_to.Goals as goal

pub returns-in_ok-put_all-in-Table-Table : goal.returns-in_ok-put_all-in-Table-Table
unfolding val.out-Val denote.Hole.Carrier.out
returns-in_ok-put_all-in-Table-Table c =
    let made = c.put_all.new.left in
    let all : members_in made ≡ union (members_in c.in-Table-Table.members) (members_in c.in-Table-Table.right) = search rules in
    rw (c.in-Table-Table.is-0, c.in-Table-Table.is-1, view-Table c.in-Table-Table.members, view-Table c.in-Table-Table.right, view-Table made) (ap (λ ms. Ok (object ms)) (sym all))
