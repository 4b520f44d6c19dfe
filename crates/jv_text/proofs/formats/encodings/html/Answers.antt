use Rattle.std.proofs.Common.{◌≡◌, ◌∙◌, [], ◌++◌, ap}
use Rattle.std.proofs.lemmas.Str.{chars-nil}
use Rattle.std.specs.Prelude.{flat_map}
use Rattle.std.specs.Str.{chars}
use Rattle.jv_data.specs.Text.{text_of}
use Rattle.jv_text.specs.Formats.{html_character}
use Rattle.jv_text.proofs.formats.encodings.html.Goals as goal

pub returns : goal.returns
returns c =
    let empty : text_of c.new-out.result ≡ [] = ap chars c.new-out.ensures.bytes ∙ chars-nil in
    c.in_ok-push_escaped.ensures
    ∙ ap (λ b. b ++ flat_map html_character (chars c.as_str.result.now)) empty
    ∙ ap (flat_map html_character) (ap chars c.as_str.ensures.value ∙ c.in_ok-text.ensures)
