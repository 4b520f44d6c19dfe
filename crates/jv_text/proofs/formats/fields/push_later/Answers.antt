use Rattle.std.proofs.Common.{◌≡◌, ◌∙◌, ◌+◌, ◌++◌, ◌∷◌, ap, sym, rules, drop}
use Rattle.std.proofs.lemmas.List.{drop_more}
use Rattle.jv_data.specs.Text.{text_of}
use Rattle.jv_data.specs.View.{items_view, view}
use Rattle.jv_text.specs.private.Appending.{appended}
use Rattle.jv_text.specs.private.Rows.{between, field_in, later_fields}
use Rattle.jv_text.proofs.FieldTexts.{appended-field}
use Rattle.jv_text.proofs.formats.fields.push_later.Goals as goal

pub loop-item-preserved : goal.loop-item-preserved
loop-item-preserved c =
    let row = c.args.row in
    let t = text_of c.loop-item.out in
    let x = c.item-item.result in
    let rest = drop (c.loop-item.item-index + 1) c.args.items.now in
    let next : drop c.loop-item.item-index c.args.items.now ≡ x ∷ rest = drop_more c.args.items.now c.loop-item.item-index x (search rules) ∙ ap (λ y. y ∷ rest) (sym c.item-item.is) in
    let after = c.in_ok-push_text.ensures ∙ ap (λ s. t ++ s) c.separator.ensures in
    let field = ap (λ s. appended s (field_in row (view x))) (sym after) ∙ c.in_ok-push_field.ensures in
    c.loop-item.invariant ∙ ap (λ xs. appended t (later_fields row (items_view xs))) next
    ∙ appended-field t (between row) (text_of c.push_field.new.out) (field_in row (view x)) (later_fields row (items_view rest)) field
