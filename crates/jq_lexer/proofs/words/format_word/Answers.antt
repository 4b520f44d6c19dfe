use Rattle.std.proofs.Common.{arith}
use Rattle.jq_lexer.proofs.NamedWords.{format_at}
use Rattle.jq_lexer.proofs.words.format_word.Goals as goal

pub returns : goal.returns
returns c = format_at c.args.rest.now c.name_length-length.result c.name_length-length.ensures.value (λ e. absurd (omega arith))
