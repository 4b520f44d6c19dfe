use Rattle.std.proofs.Common.{◌≡◌, ◌++◌, List, Option, drop, length}
use Rattle.jv_data.specs.Drafts.{present}
use Rattle.jv_data.specs.Held.{members_in}
use Rattle.jv_data.specs.View.{members_view}
use Rattle.jv_data.specs.declared.values.Val.{Val}
use Rattle.jv_data.proofs.containers.slots.own_object.Given as goal

-- the object has the members from this index on
abbrev pub invariant-loop-slot : goal.invariant-loop-slot
invariant-loop-slot l =
    (done : List (Option Val)) × (l.fn.values.items ≡ l.values.items ++ done) × (members_in l.object ≡ members_view (present (drop (length l.values.items) l.names.texts.items) done))

abbrev pub decreases-loop-slot : goal.decreases-loop-slot
decreases-loop-slot l = length l.values.items
