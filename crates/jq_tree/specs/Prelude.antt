-- The tree of the prelude, and a filter that is read after it.
--
-- The prelude is the text of definitions that comes before every filter. Its tree is that of the text as a filter of its
-- own: definitions alone end in `.`.
use Rattle.std.specs.Prelude.{List}
use Rattle.jq_tree.specs.Tree.{Tree}
use Rattle.jq_tree.specs.Tree as tree
use Rattle.jq_tree.specs.Token.{Token}
use Rattle.jq_tree.specs.Lexing.{Lexes}
use Rattle.jq_tree.specs.Grammar.{Main}
use Rattle.jq_tree.specs.declared.prelude.TheConstants.{PRELUDE}

-- p is the tree of the prelude's text. (The text is ASCII, so its bytes are its characters.)
pub record IsPrelude (p : Tree) : Type 0 where
  pub tokens : List Token
  pub lexes : Lexes PRELUDE.now tokens
  pub tree : Main tokens p

-- The definitions that p begins with, then t instead of what p has after them.
abbrev pub followed_by : Tree → Tree → Tree
followed_by (tree.define n ps f g) t = tree.define n ps f (followed_by g t)
followed_by p t = t
