-- Laws of the grammar of filters.
use Rattle.std.specs.Prelude.{◌≡◌, ◌⊎◌, List}
use Rattle.jq_tree.specs.Tree.{Tree}
use Rattle.jq_tree.specs.Token.{Token}
use Rattle.jq_tree.specs.Grammar.{Main, Pipe}

-- As a filter, tokens have at most one tree.
abbrev pub OneTree : Type 0
OneTree = (tokens : List Token) (a b : Tree) → Main tokens a → Main tokens b → a ≡ b

-- The same for a pipe inside a filter.
abbrev pub OnePipe : Type 0
OnePipe = (tokens : List Token) (a b : Tree) → Pipe tokens a → Pipe tokens b → a ≡ b

-- Whether tokens have a tree is decidable.
abbrev pub TreeOrNone : Type 0
TreeOrNone = (tokens : List Token) → ((t : Tree) × Main tokens t) ⊎ ((t : Tree) → ¬ Main tokens t)
