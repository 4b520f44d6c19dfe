use Rattle.std.proofs.Common.{length}
use Rattle.jv_data.specs.Text.{text_of}
use Rattle.jq_lexer.proofs.Pieces.{Reading}
use Rattle.jq_lexer.proofs.strings.first_piece.Given as goal

abbrev pub invariant-loop-c : goal.invariant-loop-c
invariant-loop-c l = Reading l.text l.rest (text_of l.content)

abbrev pub decreases-loop-c : goal.decreases-loop-c
decreases-loop-c l = length l.rest
