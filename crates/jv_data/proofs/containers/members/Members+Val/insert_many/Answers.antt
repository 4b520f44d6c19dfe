use Rattle.std.proofs.Common.{◌∙◌, ap, ap₂, zip}
use Rattle.jv_data.proofs.Places.{members_view-insert_entry}
use Rattle.jv_data.specs.View.{view, members_view}
use Rattle.jv_data.specs.Members.{put}
use Rattle.jv_data.specs.Text.{text_of}
use Rattle.jv_data.proofs.containers.members.Members+Val.insert_many.Goals as goal

pub returns-in_ok-insert-in-Few-clause-ok : goal.returns-in_ok-insert-in-Few-clause-ok
returns-in_ok-insert-in-Few-clause-ok c =
    let texts = c.as_slice.ensures.texts ∙ ap (λ n. n.texts.items) c.deref.ensures in
    let all = c.in_ok-map-in-Few.ensures ∙ ap₂ (λ ns vs. members_view (zip ns vs)) texts c.as_slice-in-Few.ensures.value in
    rw c.in-Few.is
    (ap members_view c.in_ok-insert-in-Few.ensures.entries ∙ members_view-insert_entry c.in_ok-map-in-Few.map.entries c.args.key c.args.value ∙ ap (put (text_of c.args.key) (view c.args.value)) all)

pub returns-in_ok-insert-in-Many-clause-ok : goal.returns-in_ok-insert-in-Many-clause-ok
returns-in_ok-insert-in-Many-clause-ok c =
    rw c.in-Many.is (ap members_view c.in_ok-insert-in-Many.ensures.entries ∙ members_view-insert_entry c.in-Many.map.entries c.args.key c.args.value)
