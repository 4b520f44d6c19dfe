use Rattle.std.proofs.Common.{◌∙◌}
use Rattle.jq_lexer.proofs.Texts.{number_spelt, number_unspelt}
use Rattle.jq_lexer.proofs.words.number.Goals as goal

pub returns-in-Some : goal.returns-in-Some
returns-in-Some c = number_spelt c.args.word.now c.as_str.result.now c.in-Some.value c.requires (c.as_str.ensures.value ∙ c.in_ok-text.ensures.bytes) c.in-Some.ensures

pub returns : goal.returns
returns c = number_unspelt c.args.word.now c.as_str.result.now c.requires (c.as_str.ensures.value ∙ c.in_ok-text.ensures.bytes) c.in-None.ensures
