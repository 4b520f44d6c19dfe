use Rattle.std.proofs.Common.{◌≡◌, ◌∙◌, ◌-◌, ◌≤◌, [], ◌∷◌, List, Ok, ap, arith, drop, get_or, length, subst, sym, take}
use Rattle.std.proofs.lemmas.List.{drop_more, take_rest}
use Rattle.std.proofs.lemmas.Result.{err_from_is_err_and}
use Rattle.std.proofs.lemmas.Str.{chars-nil}
use Rattle.std.specs.Str.{chars}
use Rattle.jv_data.specs.Fails.{FailsAs}
use Rattle.jv_data.specs.Text.{text_of}
use Rattle.jv_data.specs.View.{items_view, view}
use Rattle.jv_data.specs.declared.values.Val.{Val}
use Rattle.jv_text.specs.Formats.{GivesText, fields, joined}
use Rattle.jv_text.specs.private.Appending.{appended}
use Rattle.jv_text.specs.private.Rows.{between, field_in, later_fields}
use Rattle.jv_text.proofs.FieldTexts.{appended-first, appended-nothing, fails-later, fields-first, fields-none}
use Rattle.jv_text.proofs.formats.fields.row.Goals as goal
use Rattle.jv_text.proofs.formats.fields.row.Goals.{in_default, in-len1-up+in_ok-push_field+in_ok-push_later}

-- an array's first item, and those after it
split : (items : List Val) (first : Val) → 1 ≤ length items → first ≡ get_or items 0 first → items ≡ first ∷ take (length items - 1) (drop 1 items)
split items first h e = drop_more items 0 first (omega arith) ∙ ap (λ v. v ∷ drop 1 items) (sym e) ∙ ap (λ vs. first ∷ vs) (sym (take_rest items 1))

pub returns-in_err-push_later : goal.returns-in_err-push_later
returns-in_err-push_later c =
    let row = c.args.row in
    let items = c.args.items.now in
    let first = c.first-item.result in
    let rest = take (length items - 1) (drop 1 items) in
    let fail = c.in_err-push_later.field-0.0 in
    let p = err_from_is_err_and c.from_residual-in_err-push_later.result c.from_residual-in_err-push_later.ensures.1 in
    let text = ap (λ xs. fields (field_in row) (between row) (items_view xs)) (split items first c.in-len1-up.len_at_least c.first-item.is) ∙ fields-first row (view first) (items_view rest) in
    let fails = fails-later fail (text_of c.new-out.result) (text_of c.push_field.new.out) (field_in row (view first)) (later_fields row (items_view rest)) c.in_ok-push_field.ensures c.in_err-push_later.ensures in
    subst (λ r. GivesText r (fields (field_in row) (between row) (items_view items))) (sym p.1) (subst (λ f. FailsAs f (fields (field_in row) (between row) (items_view items))) (sym p.2) (subst (FailsAs fail) (sym text) fails))

pub returns : goal.returns
returns c =
    let row = c.args.row in
    let items = c.args.items.now in
    let empty : text_of c.new-out.result ≡ [] = ap chars c.new-out.ensures.bytes ∙ chars-nil in
    elim c.if-items-lt1.branch [
      | in_default w ↦ fields-none row items w.in_default.len_below ∙ ap Ok (sym empty) ∙ ap (λ s. Ok (text_of s)) (sym w.out-is)
      | in-len1-up+in_ok-push_field+in_ok-push_later w ↦
          let first = w.first-item.result in
          let rest = take (length items - 1) (drop 1 items) in
          let text = joined [] (field_in row (view first)) (later_fields row (items_view rest)) in
          ap (λ xs. fields (field_in row) (between row) (items_view xs)) (split items first w.in-len1-up.len_at_least w.first-item.is)
          ∙ fields-first row (view first) (items_view rest)
          ∙ sym (appended-nothing text) ∙ ap (λ s. appended s text) (sym empty)
          ∙ appended-first (text_of c.new-out.result) (text_of w.push_field.new.out) (field_in row (view first)) (later_fields row (items_view rest)) w.in_ok-push_field.ensures
          ∙ w.in_ok-push_later.ensures ∙ ap (λ s. Ok (text_of s)) (sym w.out-is)
    ]
