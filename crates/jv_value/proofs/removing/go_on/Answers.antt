use Rattle.std.proofs.Common.{sym, subst}
use Rattle.jv_data.specs.View.{view}
use Rattle.jv_data.proofs.shared.Results.{if_ok_map}
use Rattle.jv_value.specs.private.Removals.{GroupsLeave, Leaves}
use Rattle.jv_value.proofs.removing.go_on.Goals as goal

pub returns-in_ok-insert-in-Members : goal.returns-in_ok-insert-in-Members
returns-in_ok-insert-in-Members c = if_ok_map c.next_member.result c.next_member.ensures
    (λ r e w h. e w (subst (λ ms. GroupsLeave c.in-Members.groups ms w) (sym c.in_ok-insert-in-Members.ensures.ok) (subst (λ o. Leaves o (view c.args.part) w) c.in-Members.is h)))
