use Rattle.std.proofs.Common.{◌≡◌, length}
use Rattle.jv_data.specs.Held.{members_in}
use Rattle.jv_data.specs.Value.{Value}
use Rattle.jv_value.specs.private.Removals.{GroupsLeave}
use Rattle.jv_value.proofs.removing.next_member.Given as goal

abbrev pub invariant-loop-name : goal.invariant-loop-name
invariant-loop-name l = (l.opened.items ≡ l.fn.opened.items) × ((w : Value) → GroupsLeave l.fn.groups (members_in l.fn.members) w → GroupsLeave l.groups (members_in l.members) w)

abbrev pub decreases-loop-name : goal.decreases-loop-name
decreases-loop-name l = length l.groups.entries
