-- When a run can go on: what is done next names what is there.
use Rattle.jv_data.specs.Value.{Value}
use Rattle.jq_meaning.specs.Runs.{Run}
use Rattle.jq_meaning.specs.machine.Heights.{Fit}
use Rattle.jq_state.specs.Environments.{count_of}
use Rattle.jq_state.specs.Nexts.{NextFits, stands}
use Rattle.jq_state.specs.declared.next.Next.{Next}
use Rattle.jq_state.specs.declared.states.State.{State}
use Rattle.jq_engine.specs.declared.doing.Doing.{Doing}
use Rattle.jq_engine.specs.declared.doing.Doing.TheVariants as doing

-- The environments and the heights that are named are there.
abbrev pub CanGoOn : Run Value → State → Next → Type 0
CanGoOn inputs s n = NextFits (count_of s.nodes) n × Fit (stands inputs s n)

abbrev pub IsReady : Run Value → State → Doing → Type 0
IsReady inputs s (doing.Running n) = CanGoOn inputs s n
IsReady inputs s (doing.Ended e) = Unit {0}
IsReady inputs s doing.Failed = Unit {0}
