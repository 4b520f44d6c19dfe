use Rattle.std.proofs.Common.{rules, ◌∙◌, ap, sym}
use Rattle.std.proofs.lemmas.Result.{on_ok_weaker, on_err_weaker}
use Rattle.jv_data.proofs.shared.Levels.{members_held}
use Rattle.jv_data.specs.declared.containers.objects.Object.{Object}
use Rattle.jv_data.specs.declared.values.Val.{Val}
use Rattle.jv_data.proofs.Shares.{same_held, on_err}
use Rattle.jv_data.specs.Members.{put}
use Rattle.jv_data.specs.Text.{text_of}
use Rattle.jv_data.specs.Shared.{entries_held}
use Rattle.jv_data.specs.View.{view, members_view}
use Rattle.jv_data.proofs.containers.objects.Object+Val.insert.Goals as goal

pub returns-clause-ok : goal.returns-clause-ok
returns-clause-ok c =
    let held = c.in_ok-make_mut.field-0.now in
    let new : Object Val = record { members = c.make_mut.follows.lender c.insert.new.self } in
    let back = members_held new ∙ ap (λ m. members_view (entries_held m)) (c.make_mut.follows.holds c.insert.new.self (search rules)) in
    let same = same_held c.args.self.now.members.value held c.in_ok-make_mut.ensures.value ∙ sym (members_held c.args.self.now) in
    on_ok_weaker c.insert.result (λ e. back ∙ e ∙ ap (put (text_of c.args.key) (view c.args.value)) same) c.insert.ensures.ok

pub returns-clause-err : goal.returns-clause-err
returns-clause-err c =
    let held = c.in_ok-make_mut.field-0.now in
    let new : Object Val = record { members = c.make_mut.follows.lender c.insert.new.self } in
    let back = members_held new ∙ ap (λ m. members_view (entries_held m)) (c.make_mut.follows.holds c.insert.new.self (search rules)) in
    let same = same_held c.args.self.now.members.value held c.in_ok-make_mut.ensures.value ∙ sym (members_held c.args.self.now) in
    on_err_weaker c.insert.result (λ e. back ∙ e ∙ same) c.insert.ensures.err

pub returns-in_err-make_mut-clause-err : goal.returns-in_err-make_mut-clause-err
returns-in_err-make_mut-clause-err c =
    let old = c.args.self.now in
    let new : Object Val = record { members = c.make_mut.follows.lender-at-none } in
    on_err c.from_residual.result (members_held new ∙ same_held old.members.value c.make_mut.follows.lender-at-none.value (rw c.in_err-make_mut.was at c.make_mut.follows.holds-at-none) ∙ sym (members_held old))
