use Rattle.std.proofs.Common.{◌≡◌, ◌∙◌, ap, string_bytes}
use Rattle.jv_text.proofs.printing.to_compact_string.Goals as goal

pub returns : goal.returns
returns c =
    let same : string_bytes c.unwrap.result ≡ c.in_ok-bytes.bytes.items = ap (λ b. b.items) (rw c.unwrap.ensures at c.from_utf8.ensures.ok) in
    same ∙ c.in_ok-bytes.ensures.text
