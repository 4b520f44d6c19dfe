use Rattle.std.proofs.Common.{◌∙◌, ap, sym, Ok}
use Rattle.jv_data.specs.Value.{string}
use Rattle.jv_data.proofs.shared.Ascii.{ascii_chars}
use Rattle.jq_natives.proofs.kinds.type_name.Goals as goal

pub returns : goal.returns
returns c =
    ap (λ s. Ok (string s)) (sym (ascii_chars c.kind_name.result.now c.kind_name.ensures.ascii ∙ c.kind_name.ensures.name)) ∙ ap Ok (sym c.in_ok-from_text.ensures)
