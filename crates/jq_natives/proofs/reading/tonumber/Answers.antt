use Rattle.std.proofs.Common.{◌∙◌, ap, sym, subst, Ok}
use Rattle.std.specs.Option.{option_map_or}
use Rattle.jv_data.specs.Fails.{FailsAs}
use Rattle.jv_data.specs.Shared.{text_in}
use Rattle.jv_data.specs.Value.{number, string}
use Rattle.jv_data.specs.View.{view}
use Rattle.jv_number.specs.Number.{number_value}
use Rattle.jq_natives.specs.Reading.{not_a_number, tonumber_of}
use Rattle.jq_natives.proofs.Prefixed.{number_or, no_number_or}
use Rattle.jv_data.proofs.shared.Levels.{view-Text}
use Rattle.jv_data.proofs.shared.Views.{bytes_back}
use Rattle.jq_natives.proofs.reading.tonumber.Goals as goal

pub returns-in-Some : goal.returns-in-Some
returns-in-Some c =
    let t = c.in-Text.text in
    let otherwise = not_a_number (string (text_in t)) in
    ap tonumber_of (ap view c.in-Text.is ∙ view-Text t) ∙ ap (λ bs. option_map_or (λ n. Ok (number n)) (number_value bs) otherwise) (bytes_back t ∙ sym c.as_str.ensures)
    ∙ number_or (number_value c.as_str.result.now) (view c.in-Some.number) otherwise c.in-Some.ensures

pub returns-in-None : goal.returns-in-None
returns-in-None c =
    let t = c.in-Text.text in
    let seen = ap view c.in-Text.is ∙ view-Text t in
    let otherwise = not_a_number (string (text_in t)) in
    let read = ap tonumber_of seen ∙ ap (λ bs. option_map_or (λ n. Ok (number n)) (number_value bs) otherwise) (bytes_back t ∙ sym c.as_str.ensures)
    ∙ no_number_or (number_value c.as_str.result.now) otherwise c.in-None.ensures ∙ ap not_a_number (sym seen) in
    subst (FailsAs c.not_a_number.result) (sym read) c.not_a_number.ensures
