use Rattle.std.proofs.Common.{◌≡◌, ◌+◌, drop}
use Rattle.std.specs.List.{prefix_len}
use Rattle.jq_tree.specs.Lexing.{is_not_line_feed}
use Rattle.jq_lexer.proofs.lexing.line_length.Given as goal

abbrev pub invariant-loop-i : goal.invariant-loop-i
invariant-loop-i l = prefix_len is_not_line_feed l.text ≡ l.i + prefix_len is_not_line_feed (drop l.i l.text)
