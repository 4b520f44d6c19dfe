use Rattle.std.proofs.Common.{◌∙◌, sym}
use Rattle.jq_lexer.proofs.NamedWords.{variable_at}
use Rattle.jq_lexer.proofs.words.variable_word.Goals as goal

pub returns-then-is_letter : goal.returns-then-is_letter
returns-then-is_letter c = variable_at c.args.rest.now c.in_ok-first.first.now c.in_ok-first.field-0-1.now c.name_length.result (c.in_ok-first.ensures.cases.0)
    (sym c.is_letter.ensures ∙ c.if-is_letter.true) c.name_length.ensures.value
