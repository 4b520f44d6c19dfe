-- The prelude's tree, computed from its text.
use Rattle.std.specs.Prelude.{ℕ, ◌+◌, ◌*◌, List, [], Option, Some, None, length}
use Rattle.jq_tree.specs.Tree.{Tree}
use Rattle.jq_tree.specs.Tree as tree
use Rattle.jq_tree.specs.Token.{Token}
use Rattle.jq_tree.specs.declared.prelude.TheConstants.{PRELUDE}
use Rattle.jq_tree.specs.laws.Lexed.{lexed}
use Rattle.jq_parser.specs.laws.Parsed.{parsed}

unfoldable pub tokens_or_none : Option (List Token) → List Token
tokens_or_none None = []
tokens_or_none (Some ts) = ts

unfoldable pub tree_or_empty : Option Tree → Tree
tree_or_empty None = tree.empty
tree_or_empty (Some t) = t

unfoldable pub steps : ℕ
steps = 1 + length PRELUDE.now

unfoldable pub prelude_tokens : List Token
prelude_tokens = tokens_or_none (lexed steps PRELUDE.now)

-- More turns than the tokens take.
unfoldable pub turns : ℕ
turns = 16 * length prelude_tokens + 16

unfoldable pub prelude : Tree
prelude = tree_or_empty (parsed turns prelude_tokens)
