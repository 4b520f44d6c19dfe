use Rattle.std.proofs.Common.{refl, rules}
use Rattle.jq_lexer.proofs.Taking.{opens_takes}
use Rattle.jq_lexer.proofs.lexing.Lexer.open.Goals as goal

pub returns : goal.returns
returns c = opens_takes _ _ _ c.requires.between c.requires.parenthesis refl refl (search rules) (search rules)
