use Rattle.std.proofs.Common.{rules, ◌≡◌, ◌∙◌, ap, ap₂, sym, subst, remove, zip, string_bytes}
use Rattle.jv_data.proofs.Members.{same_names}
use Rattle.jv_data.proofs.Names.{insert_entry-new, insert-undone, same_texts}
use Rattle.jv_data.proofs.Places.{members_view-insert_entry}
use Rattle.jv_data.proofs.Shares.{on_err}
use Rattle.jv_data.specs.View.{view, members_view}
use Rattle.jv_data.specs.private.Names.{GoesTo}
use Rattle.jv_data.specs.Members.{put}
use Rattle.jv_data.specs.Text.{text_of}
use Rattle.jv_data.proofs.containers.members.insert_at.Goals as goal

pub returns-in_err-own-clause-err : goal.returns-in_err-own-clause-err
returns-in_err-own-clause-err c =
    let names = c.args.names.now.value in
    let now = c.make_mut.follows.lender-at-none.value in
    let same = same_texts names now (rw c.in_err-own.was at c.make_mut.follows.holds-at-none) in
    on_err c.from_residual.result (same_names now.texts.items names.texts.items c.args.values.now.items same)

pub returns-in_err-insert-clause-err : goal.returns-in_err-insert-clause-err
returns-in_err-insert-clause-err c =
    let names = c.args.names.now.value in
    let own = c.in_ok-own.own.now in
    let same = same_texts names own c.in_ok-own.ensures.value in
    let back = ap (λ n. n.texts.items) (c.make_mut.follows.holds own (search rules)) in
    let values = c.in_err-insert.ensures.items in
    on_err c.from_residual-in_err-insert.result (ap₂ (λ ns vs. members_view (zip ns vs)) back values ∙ same_names own.texts.items names.texts.items c.args.values.now.items same)

pub returns-in-Ok-clause-ok : goal.returns-in-Ok-clause-ok
returns-in-Ok-clause-ok c =
    let names = c.args.names.now.value in
    let values = c.args.values.now.items in
    let own = c.in_ok-own.own.now in
    let same = same_texts names own c.in_ok-own.ensures.value in
    let goes = subst (λ ls. GoesTo (string_bytes c.args.key) ls c.args.index) (sym same) c.requires.goes in
    let back = ap (λ n. n.texts.items) (c.make_mut.follows.holds c.insert-2.new.self (search rules)) ∙ c.in-Ok.ensures.ok in
    ap₂ (λ ns vs. members_view (zip ns vs)) back c.in_ok-insert.ensures.items
    ∙ ap members_view (sym (insert_entry-new c.args.key own.texts.items values c.args.index c.args.value goes c.requires.within))
    ∙ members_view-insert_entry (zip own.texts.items values) c.args.key c.args.value
    ∙ ap (put (text_of c.args.key) (view c.args.value)) (same_names own.texts.items names.texts.items values same)

pub returns-in-Err-clause-err : goal.returns-in-Err-clause-err
returns-in-Err-clause-err c =
    let names = c.args.names.now.value in
    let values = c.args.values.now.items in
    let own = c.in_ok-own.own.now in
    let same = same_texts names own c.in_ok-own.ensures.value in
    let back = ap (λ n. n.texts.items) (c.make_mut.follows.holds c.insert-2.new.self (search rules)) ∙ c.in-Err.ensures.err in
    let undone : c.remove.new.self.items ≡ values = c.remove.ensures.items ∙ ap (λ vs. remove vs c.args.index) c.in_ok-insert.ensures.items ∙ insert-undone values c.args.index c.args.value c.requires.within in
    ap₂ (λ ns vs. members_view (zip ns vs)) back undone ∙ same_names own.texts.items names.texts.items values same
