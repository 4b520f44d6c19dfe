use Rattle.std.proofs.Common.{sym, subst}
use Rattle.jv_data.proofs.Views.{in_order}
use Rattle.jv_data.proofs.shared.Levels.{members_held}
use Rattle.jv_data.specs.Shared.{entries_in}
use Rattle.jv_data.specs.Members.{IsInOrder}
use Rattle.jv_data.proofs.containers.objects.Object+Val.len.Goals as goal

pub returns-clause-ordered : goal.returns-clause-ordered
returns-clause-ordered c =
    let object = c.args.self.now in
    subst IsInOrder (sym (members_held object)) (in_order (entries_in object) (rw c.deref.ensures at c.len.ensures.ordered))
