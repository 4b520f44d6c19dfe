use Rattle.jq_meaning.specs.machine.State.{state, go_back}
use Rattle.jq_state.specs.Inputs.{inputs_of}
use Rattle.jq_state.specs.Views.{frames_in, forks_in}
use Rattle.jq_engine.specs.private.Leading.{Advances}
use Rattle.jq_engine.proofs.passing.go_back.Given as goal

-- the machine has advanced
abbrev pub invariant-items : goal.invariant-items
invariant-items l = record {
  run : Advances
      (state go_back (frames_in (inputs_of l.inputs) l.initial.state) (forks_in (inputs_of l.inputs) l.initial.state))
      (state go_back (frames_in (inputs_of l.inputs) l.state) (forks_in (inputs_of l.inputs) l.state));
}

abbrev pub decreases-items : goal.decreases-items
decreases-items l = l.left
