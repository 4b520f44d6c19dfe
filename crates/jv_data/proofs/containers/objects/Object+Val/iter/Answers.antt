use Rattle.std.proofs.Common.{◌≡◌, ◌∙◌, sym, ap, subst, rules}
use Rattle.jv_data.proofs.Views.{in_order}
use Rattle.jv_data.proofs.shared.Levels.{members_held}
use Rattle.jv_data.specs.Shared.{entries_in}
use Rattle.jv_data.specs.View.{members_view}
use Rattle.jv_data.specs.Members.{IsInOrder}
use Rattle.jv_data.proofs.containers.objects.Object+Val.iter.Goals as goal

pub returns-clause-members : goal.returns-clause-members
returns-clause-members c =
    let rest : c.iter.result ≡ entries_in c.args.self.now = search rules in
    ap members_view rest ∙ sym (members_held c.args.self.now)

pub returns-clause-ordered : goal.returns-clause-ordered
returns-clause-ordered c =
    let object = c.args.self.now in
    subst IsInOrder (sym (members_held object)) (in_order (entries_in object) (rw c.deref.ensures at c.iter.ensures.ordered))
