-- Unfolds all that the prelude's tree is computed by.
use Rattle.jq_tree.specs.laws.Lexed.{lexing}
use Rattle.jq_parser.specs.laws.Parsed.{parsing}
use Rattle.jq_syntax.specs.laws.Computed.{tokens_or_none, tree_or_empty, steps, prelude_tokens, turns, prelude}

unfoldable pub computing_prelude : Unit {0}
unfolding lexing parsing tokens_or_none tree_or_empty steps prelude_tokens turns prelude
computing_prelude = tt
