use Rattle.std.proofs.Common.{[], length}
use Rattle.std.specs.Str.{chars}
use Rattle.jq_tree.specs.Lexing.{between, Reads}
use Rattle.jq_lexer.specs.private.Spots.{spot_of, tokens_of}
use Rattle.jq_lexer.proofs.lexing.lex.Given as goal

abbrev pub invariant-loop-lexer : goal.invariant-loop-lexer
invariant-loop-lexer l = Reads (between []) (chars l.filter) (tokens_of l.lexer) (spot_of l.lexer) l.lexer.rest.now

abbrev pub decreases-loop-lexer : goal.decreases-loop-lexer
decreases-loop-lexer l = length l.lexer.rest.now
