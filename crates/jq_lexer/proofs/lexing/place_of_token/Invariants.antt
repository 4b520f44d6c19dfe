use Rattle.std.proofs.Common.{length}
use Rattle.std.specs.Str.{chars}
use Rattle.jq_lexer.proofs.Placing.{HasRead}
use Rattle.jq_lexer.proofs.lexing.place_of_token.Given as goal

abbrev pub invariant-loop-lexer : goal.invariant-loop-lexer
invariant-loop-lexer l = HasRead (chars l.filter) l.number l.lexer

abbrev pub decreases-loop-lexer : goal.decreases-loop-lexer
decreases-loop-lexer l = length l.lexer.rest.now
