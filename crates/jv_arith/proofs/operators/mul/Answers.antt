use Rattle.std.proofs.Common.{◌≡◌, ap, sym, Ok, rules}
use Rattle.jv_data.specs.Held.{members_in}
use Rattle.jv_data.proofs.shared.Levels.{view-Table}
use Rattle.jv_data.specs.Value.{object}
use Rattle.jv_arith.specs.Objects.{deep_union}
use Rattle.jv_arith.proofs.operators.mul.Goals as goal

pub returns-in_ok-deep_union-in-Table-Table : goal.returns-in_ok-deep_union-in-Table-Table
returns-in_ok-deep_union-in-Table-Table c =
    let made = c.in_ok-deep_union-in-Table-Table.field-0 in
    let all : members_in made ≡ deep_union (members_in c.in-Table-Table.left) (members_in c.in-Table-Table.right) = search rules in
    rw (c.in-Table-Table.is-0, c.in-Table-Table.is-1, view-Table c.in-Table-Table.left, view-Table c.in-Table-Table.right, view-Table made) (ap (λ ms. Ok (object ms)) (sym all))
