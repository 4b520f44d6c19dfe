-- The first of a fork point's items, which is given.
use Rattle.std.specs.Prelude.{◌≡◌, List, [], ◌∷◌}
use Rattle.jq_meaning.specs.machine.Machine.{resume}
use Rattle.jq_meaning.specs.machine.State as machine
use Rattle.jq_state.specs.Forks.{choice_in}
use Rattle.jq_state.specs.Items.{item_of}
use Rattle.jq_state.specs.declared.forks.Choice.{Choice}
use Rattle.jq_state.specs.declared.items.Item.{Item}

-- The machine gives this item, and a fork point with the other choice keeps the same frames.
abbrev pub GivesFirst : (old : Choice) → Item → (new : Choice) → Type 0
GivesFirst old x new = (p : machine.Scope) (c : machine.Cell) (k : List machine.Frame) (fs : List machine.ForkPoint)
    → resume (choice_in old p) c k fs ≡ machine.state (machine.give (item_of x)) k (machine.fork (choice_in new p) [] k ∷ fs)
