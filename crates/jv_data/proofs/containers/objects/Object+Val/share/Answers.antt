use Rattle.std.proofs.Common.{◌∙◌, ap, sym}
use Rattle.jv_data.proofs.shared.Levels.{members_held}
use Rattle.jv_data.specs.Shared.{entries_held}
use Rattle.jv_data.specs.View.{members_view}
use Rattle.jv_data.specs.declared.containers.objects.Object.{Object}
use Rattle.jv_data.specs.declared.values.Val.{Val}
use Rattle.jv_data.proofs.containers.objects.Object+Val.share.Goals as goal

pub returns-clause-members : goal.returns-clause-members
returns-clause-members c =
    let old = c.args.self.now in
    let new : Object Val = record { members = c.in_ok-clone.field-0 } in
    members_held new ∙ ap (λ m. members_view (entries_held m)) c.in_ok-clone.ensures.cases ∙ sym (members_held old)
