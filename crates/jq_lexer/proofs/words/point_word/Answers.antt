use Rattle.std.proofs.Common.{◌∙◌, sym}
use Rattle.jq_lexer.proofs.NamedWords.{field_at}
use Rattle.jq_lexer.proofs.NumberWords.{number_at, point_first_digit}
use Rattle.jq_lexer.proofs.words.point_word.Goals as goal

pub returns-then-is_letter : goal.returns-then-is_letter
returns-then-is_letter c = field_at c.args.text.now c.args.rest.now c.in-Some.first.now c.in-Some.field-0-1.now c.name_length.result c.requires (c.in-Some.ensures.cases.0)
    (sym c.is_letter.ensures ∙ c.if-is_letter.true) c.name_length.ensures.value

pub returns-then-is_digit : goal.returns-then-is_digit
returns-then-is_digit c = number_at c.args.text.now c.number_length.result
    (point_first_digit c.args.text.now c.args.rest.now c.in-Some.first.now c.in-Some.field-0-1.now c.requires (c.in-Some.ensures.cases.0) (sym c.is_digit.ensures ∙ c.if-is_digit.true))
    c.number_length.ensures.value
