-- The tree that the turns end with.
use Rattle.std.proofs.Common.{List}
use Rattle.jq_tree.specs.Tree.{Tree}
use Rattle.jq_tree.specs.Token.{Token}
use Rattle.jq_parser.specs.laws.Machine.{Frame, Mode, Next, go, done, turn}

pub data Ends : Next → Tree → Type 0 where
  at_end : {t : Tree} → Ends (done t) t
  by_turn : {m : Mode} {fs : List Frame} {i : List Token} {t : Tree} → Ends (turn m fs i) t → Ends (go m fs i) t
