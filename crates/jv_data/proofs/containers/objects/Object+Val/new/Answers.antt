use Rattle.std.proofs.Common.{◌∙◌, length, ap}
use Rattle.std.proofs.lemmas.List.{nil_from_length}
use Rattle.jv_data.proofs.shared.Levels.{members_held}
use Rattle.jv_data.specs.Shared.{entries_held, entries_in}
use Rattle.jv_data.specs.View.{members_view}
use Rattle.jv_data.specs.declared.containers.objects.Object.{Object}
use Rattle.jv_data.specs.declared.values.Val.{Val}
use Rattle.jv_data.proofs.containers.objects.Object+Val.new.Goals as goal

pub returns : goal.returns
returns c =
    let made : Object Val = record { members = c.in_ok-new-2.field-0 } in
    let none = ap (λ m. length (entries_held m)) c.in_ok-new-2.ensures.ok ∙ c.in_ok-new.ensures in
    members_held made ∙ ap members_view (nil_from_length (entries_in made) none)
