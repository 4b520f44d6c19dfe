use Rattle.std.proofs.Common.{IfOk, ◌≡◌, ◌∙◌, ap, subst}
use Rattle.jq_meaning.specs.machine.Machine.{step_of}
use Rattle.jq_meaning.specs.machine.State as machine
use Rattle.jq_state.specs.Inputs.{inputs_of}
use Rattle.jq_state.specs.Views.{frames_in, forks_in}
use Rattle.jq_transitions.specs.Outcomes.{Steps}
use Rattle.jq_transitions.proofs.backtracking.resuming.go_back_once.Goals as goal

pub returns : goal.returns
returns c =
    let inputs = inputs_of c.args.inputs.now in
    let s = c.args.state.now in
    let t = c.give_next.new.self in
    let frames = c.in_default.ensures.none_frames inputs in
    let forks = c.in_default.ensures.none_forks inputs in
    let same : step_of machine.go_back (frames_in inputs t) (forks_in inputs t) ≡ step_of machine.go_back (frames_in inputs s) (forks_in inputs s) =
    ap (λ k. step_of machine.go_back k (forks_in inputs t)) frames ∙ ap (step_of machine.go_back (frames_in inputs s)) forks in
    subst (λ (g : machine.Progress). IfOk c.resume_newest.result (Steps inputs g c.resume_newest.new.state)) same c.resume_newest.ensures
