use Rattle.std.proofs.Common.{◌∙◌, ◌∷◌, ap, sym}
use Rattle.std.specs.Cmp.Lexicographic.{slice_cmp}
use Rattle.std.specs.Ordering.{ordering_then}
use Rattle.jv_data.proofs.Utf8.{chars-cmp}
use Rattle.jv_data.proofs.Views.{first_decides}
use Rattle.jv_data.specs.View.{members_view}
use Rattle.jv_data.specs.Text.{text_of}
use Rattle.jv_data.specs.Value.{keys, text_cmp}
use Rattle.jv_data.proofs.ordering.order_keys.Goals as goal

pub loop-key-preserved : goal.loop-key-preserved
loop-key-preserved c =
    let compared = (rw (c.as_str.ensures.value, c.as_str-in-Some-next.ensures.value) at c.cmp.ensures) ∙ chars-cmp c.in-Some.key.now c.in-Some-next.other.now in
    let left = keys (members_view c.next.new.self) in
    let right = keys (members_view c.next-in-loop-key.new.self) in
    c.loop-key.invariant ∙ ap (λ es. slice_cmp text_cmp (keys (members_view es)) (keys (members_view c.loop-key.others))) c.in-Some.ensures.steps
    ∙ ap (λ es. slice_cmp text_cmp (text_of c.in-Some.key.now ∷ left) (keys (members_view es))) c.in-Some-next.ensures.steps
    ∙ ap (λ o. ordering_then o (slice_cmp text_cmp left right)) (sym compared ∙ c.in-Equal.is)

pub returns-in_default : goal.returns-in_default
returns-in_default c =
    let compared = (rw (c.as_str.ensures.value, c.as_str-in-Some-next.ensures.value) at c.cmp.ensures) ∙ chars-cmp c.in-Some.key.now c.in-Some-next.other.now in
    let left = keys (members_view c.next.new.self) in
    let right = keys (members_view c.next-in-loop-key.new.self) in
    first_decides c.cmp.result (slice_cmp text_cmp left right) c.in_default.not-Equal ∙ ap (λ o. ordering_then o (slice_cmp text_cmp left right)) compared
    ∙ sym (ap (λ es. slice_cmp text_cmp (text_of c.in-Some.key.now ∷ left) (keys (members_view es))) c.in-Some-next.ensures.steps)
    ∙ sym (ap (λ es. slice_cmp text_cmp (keys (members_view es)) (keys (members_view c.loop-key.others))) c.in-Some.ensures.steps)
    ∙ sym c.loop-key.invariant
