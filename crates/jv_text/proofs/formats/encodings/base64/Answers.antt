use Rattle.std.proofs.Common.{◌∙◌, ap, sym}
use Rattle.std.proofs.lemmas.Str.{chars-IsAscii, encodes-chars}
use Rattle.std.specs.Prelude.{encode_utf8_all}
use Rattle.std.specs.Str.{chars}
use Rattle.base64.proofs.EngineFacts.{IsAscii-encode_of}
use Rattle.base64.specs.Engines.{standard}
use Rattle.jv_text.specs.Formats.{base64_text}
use Rattle.jv_text.proofs.formats.encodings.base64.Goals as goal

pub returns : goal.returns
returns c =
    let text = ap chars c.as_str.ensures.value ∙ c.in_ok-text.ensures in
    let bytes = c.as_bytes.ensures.value ∙ sym (encodes-chars c.as_str.result.now c.as_str.utf8) ∙ ap encode_utf8_all text in
    ap chars c.in_ok-encode.ensures.text ∙ chars-IsAscii _ (IsAscii-encode_of standard c.as_bytes.result.now) ∙ ap base64_text bytes
