use Rattle.std.proofs.Common.{◌∙◌, zip, sym, ap, rules}
use Rattle.std.proofs.lemmas.Result.{IfOk-weaker}
use Rattle.jv_data.proofs.Drafts.{present_full}
use Rattle.jv_data.proofs.shared.Levels.{members_held}
use Rattle.jv_data.specs.private.Slots.{AreSome}
use Rattle.jv_data.specs.View.{members_view}
use Rattle.jv_data.proofs.containers.slots.Slots.finish.Goals as goal

pub returns-in_ok-values_there : goal.returns-in_ok-values_there
returns-in_ok-values_there c =
    let names = c.args.self.names.value.texts.items in
    let full : AreSome c.args.self.values.items = search rules in
    let same = ap (zip names) c.in_ok-values_there.ensures ∙ sym (present_full names c.args.self.values.items full) in
    IfOk-weaker c.from_lists.result _ _ (λ o e. members_held o ∙ ap members_view (e ∙ same)) c.from_lists.ensures
