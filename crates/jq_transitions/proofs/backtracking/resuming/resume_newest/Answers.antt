use Rattle.std.proofs.Common.{◌∙◌, sym, ap}
use Rattle.jq_meaning.specs.machine.Machine.{step_of}
use Rattle.jq_meaning.specs.machine.State.{go_back, moves}
use Rattle.jq_state.specs.Inputs.{inputs_of}
use Rattle.jq_state.specs.Views.{frames_in}
use Rattle.jq_transitions.proofs.backtracking.resuming.resume_newest.Goals as goal

pub returns-in_ok-resume-in-Some : goal.returns-in_ok-resume-in-Some
returns-in_ok-resume-in-Some c =
    let inputs = inputs_of c.args.inputs.now in
    let next = c.in_ok-resume-in-Some.ensures in
    (next.0, ap (step_of go_back (frames_in inputs c.args.state.now)) (c.in-Some.ensures.forks inputs) ∙ ap moves (sym next.1))

pub returns-in-None : goal.returns-in-None
returns-in-None c =
    let inputs = inputs_of c.args.inputs.now in
    ap (step_of go_back (frames_in inputs c.args.state.now)) (c.in-None.ensures.none inputs)
