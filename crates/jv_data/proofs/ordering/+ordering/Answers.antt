use Rattle.std.proofs.Common.{◌≡◌, ◌∙◌, ap, arith, rules}
use Rattle.jv_data.specs.Value.{string}
use Rattle.jv_data.specs.Shared.{bytes_in, text_in}
use Rattle.jv_data.specs.View.{view}
use Rattle.jv_data.specs.declared.containers.texts.SharedText.{SharedText}
use Rattle.jv_data.specs.declared.values.Val.{Val, the_lemmas}
use Rattle.jv_data.specs.declared.values.Val as val
use Rattle.jv_data.proofs.shared.Depths.{depth_held, depth_under}
use Rattle.jv_data.proofs.shared.Levels.{view-Table}
use Rattle.jv_data.proofs.Utf8.{utf8-cmp}
use Rattle.jv_data.proofs.shared.Views.{text_utf8}
use Rattle.jv_data.proofs.Views.{first_decides}
use Rattle.jv_data.proofs.ordering.+ordering.Goals as goal

text_view : (t : SharedText) → view (val.Text t) ≡ string (text_in t)
text_view t = search (rules, the_lemmas)

pub order_near-returns-in-Text-Text : goal.order_near-returns-in-Text-Text
order_near-returns-in-Text-Text t c =
    rw (c.in-Text-Text.is-0, c.in-Text-Text.is-1, text_view c.in-Text-Text.x, text_view c.in-Text-Text.y)
    ((rw (c.as_str.ensures, c.as_str-in-Text-Text.ensures) at c.cmp-in-Text-Text.ensures) ∙ utf8-cmp (bytes_in c.in-Text-Text.x) (bytes_in c.in-Text-Text.y) (text_utf8 c.in-Text-Text.x) (text_utf8 c.in-Text-Text.y))

pub order_near-returns-in-Equal : goal.order_near-returns-in-Equal
order_near-returns-in-Equal t c =
    rw (c.in-Table-Table.is-0, c.in-Table-Table.is-1, view-Table c.in-Table-Table.xs, view-Table c.in-Table-Table.ys, ← c.order_keys.ensures, c.in-Equal.is)
    c.order_members.ensures

pub order_near-returns-in_default-order_keys : goal.order_near-returns-in_default-order_keys
order_near-returns-in_default-order_keys t c =
    rw (c.in-Table-Table.is-0, c.in-Table-Table.is-1, view-Table c.in-Table-Table.xs, view-Table c.in-Table-Table.ys, ← c.order_keys.ensures)
    (first_decides c.order_keys.result _ c.in_default-order_keys.not-Equal)

pub order_members-order_near-requires : goal.order_members-order_near-requires
order_members-order_near-requires t c =
    let measure = c.decreases in
    let within = c.loop-member.invariant.1 in
    let first = ap depth_under c.in-Some.ensures.steps in
    let held = depth_held c.args.left.now.members.value in
    (omega arith, tt)
