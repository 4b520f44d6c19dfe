use Rattle.std.proofs.Common.{◌≡◌, ◌∙◌, ◌++◌, ap, arith, string_bytes}
use Rattle.std.proofs.lemmas.List.Elements.{All-from_get_or}
use Rattle.std.proofs.lemmas.Str.{chars-IsAscii}
use Rattle.std.specs.Str.{chars}
use Rattle.percent_encoding.proofs.PercentLemmas.{IsAscii-percent_encode, IsByte}
use Rattle.percent_encoding.specs.Iter.{encoded_text}
use Rattle.percent_encoding.specs.Percent.{percent_encode}
use Rattle.jv_text.specs.declared.formats.encodings.TheConstants.{RESERVED}
use Rattle.jv_text.proofs.UriBytes.{percent_encode-bytes}
use Rattle.jv_text.proofs.formats.encodings.percent_encoded.Goals as goal

pub returns : goal.returns
returns c =
    let bs = c.args.bytes.now in
    let small = All-from_get_or IsByte bs 0 (λ i within. omega (arith, c.type_inv.bytes i)) in
    let written : string_bytes c.append_to.new.out ≡ percent_encode RESERVED bs = c.in_ok-append_to.ensures.ok ∙ ap (λ s. s ++ encoded_text c.percent_encode.result) c.new-out.ensures.bytes ∙ c.percent_encode.ensures.text in
    ap chars written ∙ chars-IsAscii (percent_encode RESERVED bs) (IsAscii-percent_encode RESERVED bs) ∙ percent_encode-bytes bs small
