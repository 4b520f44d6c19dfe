use Rattle.std.proofs.Common.{◌∙◌, ap, sym}
use Rattle.std.proofs.lemmas.Str.{encodes-chars}
use Rattle.std.specs.Prelude.{encode_utf8_all, flat_map}
use Rattle.std.specs.Str.{chars}
use Rattle.jv_text.specs.Formats.{uri_byte}
use Rattle.jv_text.proofs.formats.encodings.uri.Goals as goal

pub returns : goal.returns
returns c =
    let text = ap chars c.as_str.ensures.value ∙ c.in_ok-text.ensures in
    let bytes = c.as_bytes.ensures.value ∙ sym (encodes-chars c.as_str.result.now c.as_str.utf8) ∙ ap encode_utf8_all text in
    c.in_ok-percent_encoded.ensures ∙ ap (flat_map uri_byte) bytes
