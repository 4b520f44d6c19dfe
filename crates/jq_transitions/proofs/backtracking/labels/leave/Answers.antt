use Rattle.std.proofs.Common.{◌∙◌, ap}
use Rattle.jq_meaning.specs.machine.Stack.{cut}
use Rattle.jq_meaning.specs.machine.State.{moves}
use Rattle.jq_state.specs.Views.{forks_in}
use Rattle.jq_transitions.proofs.Transitions.{goes_back}
use Rattle.jq_transitions.proofs.backtracking.labels.leave.Goals as goal

pub returns-in-Some : goal.returns-in-Some
returns-in-Some c inputs = (
  tt,
  c.in-Some.ensures.frames inputs (forks_in inputs c.args.state.now)
      ∙ ap moves (goes_back (c.cut_forks.ensures.frames inputs) (c.cut_forks.ensures.forks inputs ∙ ap (cut c.in-Some.height) (c.in-Some.ensures.forks inputs))),
)

pub returns-in-None : goal.returns-in-None
returns-in-None c inputs = c.in-None.ensures.frames inputs (forks_in inputs c.args.state.now)
