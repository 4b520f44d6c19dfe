-- What the evaluation of a filter comes to, where a filter in tail position may follow.
use Rattle.std.specs.Prelude.{◌≡◌, ◌<◌}
use Rattle.jv_data.specs.Value.{Value}
use Rattle.jq_ast.specs.Named.{named}
use Rattle.jq_meaning.specs.Runs.{Run}
use Rattle.jq_meaning.specs.machine.Machine.{step}
use Rattle.jq_meaning.specs.machine.State.{moves}
use Rattle.jq_meaning.specs.machine.State as machine
use Rattle.jq_state.specs.Environments.{count_of}
use Rattle.jq_state.specs.Items.{item_of}
use Rattle.jq_state.specs.Nexts.{NextFits, stands}
use Rattle.jq_state.specs.declared.items.Item.{Item}
use Rattle.jq_state.specs.declared.next.Next.{Next}
use Rattle.jq_state.specs.declared.states.State.{State}
use Rattle.jq_engine.specs.private.Leading.{Advances, Leads, at_filter}
use Rattle.jq_engine.specs.declared.tails.Tail.{Tail}
use Rattle.jq_engine.specs.declared.tails.Tail.TheVariants as tail

-- A transition of a state, or of a later one, leads to this state.
pub record Arrives (before goal : machine.State) : Type 0 where
  pub from : machine.State
  pub advances : Advances before from
  pub steps : step from ≡ moves goal

-- It is what is done next.
abbrev pub ArrivesAt : Run Value → (before : machine.State) → State → Next → Type 0
ArrivesAt inputs before s n = NextFits (count_of s.nodes) n × Arrives before (stands inputs s n)

-- A filter is evaluated next, on what the input has become; or the run comes to this progress.
abbrev pub Follows : Run Value → (before : machine.State) → State → Item → Tail → Type 0
Follows inputs before s x (tail.Filter t p) = (p.env < count_of s.nodes) × Arrives before (at_filter inputs s (named t.now) p (item_of x))
Follows inputs before s x (tail.Progress r) = Leads inputs before s r

-- The same for each state that a transition leads to this one.
abbrev pub FollowsAfter : Run Value → (goal : machine.State) → State → Item → Tail → Type 0
FollowsAfter inputs goal s x r = (before : machine.State) → step before ≡ moves goal → Follows inputs before s x r
