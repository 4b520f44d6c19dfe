use Rattle.std.proofs.Common.{ap}
use Rattle.jv_data.specs.Held.{members_in}
use Rattle.jv_data.proofs.shared.Levels.{view-Table}
use Rattle.jq_natives.specs.Containment.{members_contained}
use Rattle.jq_natives.proofs.containment.search_of.Goals as goal

pub returns-in-Table-Table : goal.returns-in-Table-Table
returns-in-Table-Table c =
    rw (c.in-Table-Table.is-0, c.in-Table-Table.is-1, view-Table c.in-Table-Table.parts, view-Table c.in-Table-Table.wholes)
    (ap (λ ms. members_contained ms (members_in c.in-Table-Table.wholes)) c.iter.ensures.members)
