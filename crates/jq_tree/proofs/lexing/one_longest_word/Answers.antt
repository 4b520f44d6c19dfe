use Rattle.jq_tree.proofs.shared.Valueless.{one_longest}
use Rattle.jq_tree.proofs.lexing.one_longest_word.Goals as goal

pub returns : goal.returns
returns c = one_longest
