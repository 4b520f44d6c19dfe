-- The states that laws speak of.
use Rattle.std.specs.Prelude.{ℕ, List, []}
use Rattle.jv_data.specs.Value.{Value}
use Rattle.jq_tree.specs.Tree.{Name, Tree}
use Rattle.jq_meaning.specs.Runs.{Item, Run, plain}
use Rattle.jq_meaning.specs.Meaning.{meaning}
use Rattle.jq_meaning.specs.Env.{outermost, with_variables}
use Rattle.jq_meaning.specs.machine.State.{Scope, Frame, evaluate, ForkPoint, State, state}
use Rattle.jq_meaning.specs.machine.Operations.{deliver}

-- the first state for a filter on an item
abbrev pub start : Tree → Scope → Item → State
start t p x = state (evaluate t p x) [] []

-- the scope in which a whole program runs
abbrev pub outer_scope : (depth : ℕ) → List (Name × Value) → Run Value → Scope
outer_scope depth variables inputs = record { env = with_variables variables (outermost inputs); depth = depth; level = 0 }

-- the first state for a whole program on a value
abbrev pub starting : (depth : ℕ) → List (Name × Value) → Run Value → Tree → Value → State
starting depth variables inputs t v = start t (outer_scope depth variables inputs) (plain v)

-- the state in which a filter is to be run on an item, whose outputs go to the frames
abbrev pub to_run : Tree → Scope → Item → List Frame → List ForkPoint → State
to_run t p x k fs = state (evaluate t p x) k fs

-- the state after it is run at once: its outputs, as a known run, go to the frames
abbrev pub run_at_once : Tree → Scope → Item → List Frame → List ForkPoint → State
run_at_once t p x k fs = deliver (meaning p.depth t p.env p.level x) k fs
