-- The scope of a fork point that runs no filter.
use Rattle.std.specs.Prelude.{List, [], ◌∷◌}
use Rattle.jv_data.specs.Value.{Value}
use Rattle.jq_meaning.specs.Env.{Env}
use Rattle.jq_meaning.specs.Runs.{Run, Item}
use Rattle.jq_meaning.specs.machine.State as machine
use Rattle.jq_state.specs.Forks.{choice_in}
use Rattle.jq_state.specs.Links.{scope_in}
use Rattle.jq_state.specs.Views.{envs_in, frames_in, forks_in}
use Rattle.jq_state.specs.declared.forks.Choice.{Choice}
use Rattle.jq_state.specs.declared.states.State.{State}

abbrev pub outermost_scope : List Env → machine.Scope
outermost_scope envs = scope_in envs (record { env = 0; depth = 0; level = 0 })

-- An item is given, and a fork point keeps the choice that gives the others.
abbrev pub giving_first : State → Item → Choice → Run Value → machine.State
giving_first s x others inputs =
    machine.state (machine.give x) (frames_in inputs s) (machine.fork (choice_in others (outermost_scope (envs_in inputs s))) [] (frames_in inputs s) ∷ forks_in inputs s)
