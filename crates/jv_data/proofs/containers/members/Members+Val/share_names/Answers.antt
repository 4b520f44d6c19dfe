use Rattle.std.proofs.Common.{◌∙◌, ap, zip}
use Rattle.jv_data.proofs.Members.{same_names}
use Rattle.jv_data.specs.View.{members_view}
use Rattle.jv_data.proofs.containers.members.Members+Val.share_names.Goals as goal

pub returns-in-Some : goal.returns-in-Some
returns-in-Some c =
    let list = c.in-Some.list.value.texts.items in
    rw c.in-Few.is (ap (λ vs. members_view (zip list vs)) c.shrink_to_fit.ensures.items ∙ same_names list c.in-Few.names.value.texts.items c.in-Few.values.items c.in-Some.ensures)
