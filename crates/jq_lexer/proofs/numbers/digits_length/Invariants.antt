use Rattle.std.proofs.Common.{◌≡◌, ◌+◌, drop}
use Rattle.std.specs.List.{prefix_len}
use Rattle.jq_tree.specs.Words.{is_digit}
use Rattle.jq_lexer.proofs.numbers.digits_length.Given as goal

abbrev pub invariant-loop-i : goal.invariant-loop-i
invariant-loop-i l = prefix_len is_digit l.text ≡ l.i + prefix_len is_digit (drop l.i l.text)
