use Rattle.std.proofs.Common.{◌≡◌, ◌∙◌, [], ap, sym}
use Rattle.std.proofs.lemmas.Str.{chars-nil}
use Rattle.std.specs.Str.{chars}
use Rattle.jv_data.specs.Text.{text_of}
use Rattle.jv_data.specs.View.{view}
use Rattle.jv_text.specs.Formats.{shell_word}
use Rattle.jv_text.specs.private.Appending.{appended}
use Rattle.jv_text.proofs.FieldTexts.{appended-nothing}
use Rattle.jv_text.proofs.formats.fields.word.Goals as goal

pub returns : goal.returns
returns c =
    let word = shell_word (view c.args.value.now) in
    let empty : text_of c.new-out.result ≡ [] = ap chars c.new-out.ensures.bytes ∙ chars-nil in
    sym (appended-nothing word) ∙ ap (λ s. appended s word) (sym empty) ∙ c.in_ok-push_field.ensures
