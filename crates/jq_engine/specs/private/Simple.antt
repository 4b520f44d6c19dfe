-- Filters whose output is known at once.
use Rattle.std.specs.Prelude.{◌≡◌, List}
use Rattle.jv_data.specs.Value.{Value}
use Rattle.jq_tree.specs.Tree.{Name, Tree, Pattern, whole}
use Rattle.jq_meaning.specs.Runs.{Run, plain}
use Rattle.jq_meaning.specs.machine.State.{Frame, ForkPoint, state, evaluate, give}
use Rattle.jq_state.specs.Environments.{envs_of}
use Rattle.jq_state.specs.Links.{scope_in}
use Rattle.jq_state.specs.declared.environments.Nodes.{Nodes}
use Rattle.jq_state.specs.declared.frames.Scope.{Scope}
use Rattle.jq_engine.specs.private.Leading.{Advances}

-- On this input a filter has this one output, whatever the frames and the fork points are.
abbrev pub GivesOne : Nodes → Tree → Scope → (input output : Value) → Type 0
GivesOne ns t p v w =
    (inputs : Run Value) (k : List Frame) (fs : List ForkPoint) → Advances (state (evaluate t (scope_in (envs_of inputs ns) p) (plain v)) k fs) (state (give (plain w)) k fs)

-- The pattern is a variable, which gets the only output.
abbrev pub BindsOne : Nodes → Tree → Pattern → Scope → (input : Value) → Name → (output : Value) → Type 0
BindsOne ns t q p v n w = (q ≡ whole n) × GivesOne ns t p v w
