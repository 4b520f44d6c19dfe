-- Filters in tail position.
use Rattle.std.proofs.Common.{◌≡◌, ◌∷◌, [], refl, List}
use Rattle.jv_data.specs.Value.{Value}
use Rattle.jq_tree.specs.Tree.{Name, no_trees}
use Rattle.jq_meaning.specs.Env.{Env, with_arguments}
use Rattle.jq_meaning.specs.Runs.{Run}
use Rattle.jq_meaning.specs.machine.State as machine
use Rattle.jq_state.specs.declared.items.Item.{Item}
use Rattle.jq_state.specs.declared.states.State.{State}
use Rattle.jq_engine.specs.declared.tails.Tail.{Tail}
use Rattle.jq_engine.specs.declared.tails.Tail.TheVariants as tail
use Rattle.jq_engine.specs.private.Leading.{Advances, here, by_transition}
use Rattle.jq_engine.specs.private.Tails.{Arrives, Follows}
use Rattle.jq_engine.proofs.Leading.{and_then, later_leads}

pub arrives_later : {before goal : machine.State} → Arrives before goal → Advances before goal
arrives_later a = and_then a.advances (by_transition a.steps here)

pub follows_later : (inputs : Run Value) (before later : machine.State) (s : State) (x : Item) (r : Tail) → Advances before later → Follows inputs later s x r → Follows inputs before s x r
follows_later inputs before later s x (tail.Filter t p) a h = (h.0, record { from = h.1.from; advances = and_then a h.1.advances; steps = h.1.steps })
follows_later inputs before later s x (tail.Progress r) a h = later_leads inputs before later s r a h

-- without arguments a body runs in its own environment
pub with_none : (ps : List Name) (caller own : Env) → with_arguments ps no_trees caller own ≡ own
with_none [] caller own = refl
with_none (p ∷ ps) caller own = refl
