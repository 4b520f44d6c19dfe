use Rattle.std.proofs.Common.{◌≡◌, ◌+◌, drop}
use Rattle.std.specs.List.{prefix_len}
use Rattle.jq_tree.specs.Words.{is_name_character}
use Rattle.jq_lexer.proofs.words.name_length.Given as goal

abbrev pub invariant-loop-i : goal.invariant-loop-i
invariant-loop-i l = prefix_len is_name_character l.text ≡ l.i + prefix_len is_name_character (drop l.i l.text)
