-- Tokens that are no filter.
use Rattle.std.specs.Prelude.{ℕ, ◌≤◌, List, length}
use Rattle.jq_tree.specs.Tree.{Tree}
use Rattle.jq_tree.specs.Token.{Token}
use Rattle.jq_tree.specs.Grammar.{Main}

abbrev pub HasTree : List Token → Type 0
HasTree ts = (t : Tree) × Main ts t

-- They are no filter, and the parser stops after n of them.
pub record IsRefusedAt (ts : List Token) (n : ℕ) : Type 0 where
  pub refused : (t : Tree) → ¬ Main ts t
  pub within : n ≤ length ts
