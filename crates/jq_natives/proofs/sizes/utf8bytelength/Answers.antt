use Rattle.std.proofs.Common.{◌∙◌, ap, sym, length, Ok}
use Rattle.jv_data.specs.View.{view}
use Rattle.jq_natives.specs.Answers.{count}
use Rattle.jq_natives.specs.Sizes.{utf8bytelength_of}
use Rattle.jv_data.proofs.shared.Levels.{view-Text}
use Rattle.jv_data.proofs.shared.Views.{bytes_back}
use Rattle.jq_natives.proofs.sizes.utf8bytelength.Goals as goal

pub returns-in_ok-count-in-Text : goal.returns-in_ok-count-in-Text
returns-in_ok-count-in-Text c =
    let t = c.in-Text.text in
    ap utf8bytelength_of (ap view c.in-Text.is ∙ view-Text t) ∙ ap (λ bs. Ok (count (length bs))) (bytes_back t ∙ sym c.as_str.ensures) ∙ ap Ok (sym c.in_ok-count-in-Text.ensures.value)
