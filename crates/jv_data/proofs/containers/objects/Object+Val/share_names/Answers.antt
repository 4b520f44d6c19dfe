use Rattle.std.proofs.Common.{◌∙◌, ap, sym}
use Rattle.std.specs.Rc.{rc_with_value}
use Rattle.jv_data.proofs.shared.Levels.{members_held}
use Rattle.jv_data.specs.Shared.{entries_held}
use Rattle.jv_data.specs.View.{members_view}
use Rattle.jv_data.specs.declared.containers.objects.Object.{Object}
use Rattle.jv_data.specs.declared.values.Val.{Val}
use Rattle.jv_data.proofs.containers.objects.Object+Val.share_names.Goals as goal

pub returns-in-Some : goal.returns-in-Some
returns-in-Some c =
    let new : Object Val = record { members = rc_with_value c.args.self.now.members c.share_names.new.self } in
    members_held new ∙ c.share_names.ensures ∙ ap (λ m. members_view (entries_held m)) c.in-Some.ensures.value ∙ sym (members_held c.args.self.now)
