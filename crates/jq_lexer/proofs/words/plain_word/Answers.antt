use Rattle.std.proofs.Common.{◌∙◌, sym}
use Rattle.jq_lexer.proofs.NamedWords.{name_at}
use Rattle.jq_lexer.proofs.NumberWords.{digit_first, number_at}
use Rattle.jq_lexer.proofs.words.plain_word.Goals as goal

pub returns-then-is_letter : goal.returns-then-is_letter
returns-then-is_letter c = name_at c.args.text.now c.in_ok-first.first.now c.in_ok-first.field-0-1.now c.name_length.result (c.in_ok-first.ensures.cases.0)
    (sym c.is_letter.ensures ∙ c.if-is_letter.true) c.name_length.ensures.value

pub returns-then-is_digit : goal.returns-then-is_digit
returns-then-is_digit c = number_at c.args.text.now c.number_length.result
    (digit_first c.args.text.now c.in_ok-first.first.now c.in_ok-first.field-0-1.now (c.in_ok-first.ensures.cases.0) (sym c.is_digit.ensures ∙ c.if-is_digit.true)) c.number_length.ensures.value
