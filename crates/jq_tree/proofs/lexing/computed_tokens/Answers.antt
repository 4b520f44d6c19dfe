use Rattle.jq_tree.proofs.shared.Lexed.{lexed_are_the_tokens}
use Rattle.jq_tree.proofs.lexing.computed_tokens.Goals as goal

pub returns : goal.returns
returns c = lexed_are_the_tokens
