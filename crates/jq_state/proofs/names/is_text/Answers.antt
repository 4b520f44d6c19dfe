use Rattle.std.proofs.Common.{◌∙◌, ap, string_bytes}
use Rattle.std.specs.Str.{bytes_eq}
use Rattle.std.proofs.lemmas.Str.{IsUtf8-string_bytes}
use Rattle.jv_data.proofs.shared.Texts.{same_characters}
use Rattle.jq_state.proofs.names.is_text.Goals as goal

pub returns : goal.returns
returns c =
    let a = c.args.name.now.text in
    let b = c.args.text.now in
    c.eq.ensures ∙ ap (λ z. bytes_eq z c.as_str-2.result.now) c.as_str.ensures.value ∙ ap (bytes_eq (string_bytes a)) c.as_str-2.ensures.value
    ∙ same_characters (string_bytes a) (string_bytes b) (IsUtf8-string_bytes a) (IsUtf8-string_bytes b)
