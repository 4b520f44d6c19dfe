use Rattle.std.proofs.Common.{◌≡◌, ◌∙◌, ◌++◌, ap, rules}
use Rattle.std.specs.Fmt.{signed_decimal}
use Rattle.std.specs.Str.{chars}
use Rattle.jv_data.proofs.shared.Levels.{view-Null, view-Bool, view-Num, view-Text}
use Rattle.jv_data.specs.Text.{text_of}
use Rattle.jv_data.specs.View.{view}
use Rattle.jv_text.specs.private.Rows.{field_in, quoted_in}
use Rattle.jv_text.proofs.FieldTexts.{appended-text, field-null, field-boolean, field-number, field-string}
use Rattle.jv_text.proofs.formats.fields.push_field.Goals as goal
use Rattle.jv_text.proofs.formats.fields.push_field.Goals.{in-Null+in_ok-push_text-in-Null, in-Bool+in_ok-push_text-in-Bool, in-Num+in_ok-push_text-in-Num, in-Text+in_ok-push_quoted-in-Text}

pub returns : goal.returns
returns c =
    let row = c.args.row in
    let old = text_of c.args.out.now in
    elim c.match-value.branch [
      | in-Null+in_ok-push_text-in-Null w ↦
          appended-text old _ _ _ (ap (λ v. field_in row (view v)) w.in-Null.is ∙ ap (field_in row) view-Null ∙ field-null row)
          (ap text_of w.out-is ∙ w.in_ok-push_text-in-Null.ensures ∙ ap (λ s. old ++ s) w.null.ensures)
      | in-Bool+in_ok-push_text-in-Bool w ↦
          appended-text old _ _ _ (ap (λ v. field_in row (view v)) w.in-Bool.is ∙ ap (field_in row) (view-Bool w.in-Bool.b) ∙ field-boolean row w.in-Bool.b)
          (ap text_of w.out-is ∙ w.in_ok-push_text-in-Bool.ensures ∙ ap (λ s. old ++ s) w.boolean_text.ensures)
      | in-Num+in_ok-push_text-in-Num w ↦
          let digits : w.format.result.now ≡ signed_decimal w.in-Num.n = search rules in
          appended-text old _ _ _ (ap (λ v. field_in row (view v)) w.in-Num.is ∙ ap (field_in row) (view-Num w.in-Num.n) ∙ field-number row w.in-Num.n)
          (ap text_of w.out-is ∙ w.in_ok-push_text-in-Num.ensures ∙ ap (λ s. old ++ chars s) digits)
      | in-Text+in_ok-push_quoted-in-Text w ↦
          appended-text old _ _ _ (ap (λ v. field_in row (view v)) w.in-Text.is ∙ ap (field_in row) (view-Text w.in-Text.text) ∙ field-string row _)
          (ap text_of w.out-is ∙ w.in_ok-push_quoted-in-Text.ensures ∙ ap (λ s. old ++ quoted_in row (chars s)) w.as_str.ensures)
    ]
