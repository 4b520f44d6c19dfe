use Rattle.std.proofs.Common.{◌∙◌, ap}
use Rattle.jv_number.specs.Number.{value_of, is_negative, parts_of}
use Rattle.jv_number.proofs.Same.{number_exact}
use Rattle.jv_number.proofs.number_text.Goals as goal

pub returns-then-is_number-clause-exact : goal.returns-then-is_number-clause-exact
returns-then-is_number-clause-exact c =
    let value = c.value_of.ensures ∙ ap (λ text. value_of (is_negative text) (parts_of text)) c.as_bytes.ensures.value in
    number_exact c.args.text.now c.value_of.result (c.is_number.ensures.0 c.if-is_number.true) value
