use Rattle.std.proofs.Common.{refl}
use Rattle.jv_data.specs.View.{view}
use Rattle.jq_meaning.specs.machine.State.{state, raise}
use Rattle.jq_state.specs.Inputs.{inputs_of}
use Rattle.jq_state.specs.Nexts.{stands}
use Rattle.jq_state.specs.Views.{frames_in, forks_in}
use Rattle.jq_engine.specs.private.Leading.{here}
use Rattle.jq_engine.proofs.Leading.{leads_all, leads_to}
use Rattle.jq_engine.proofs.stepping.step.Goals as goal

pub returns-in-Evaluate : goal.returns-in-Evaluate
returns-in-Evaluate c = rw c.in-Evaluate.is c.evaluate.ensures

pub returns-in-Give : goal.returns-in-Give
returns-in-Give c = rw c.in-Give.is c.deliver.ensures

pub returns-in_ok-next-in-Matching : goal.returns-in_ok-next-in-Matching
returns-in_ok-next-in-Matching c =
    let inputs = inputs_of c.args.inputs.now in
    let h = c.in_ok-next-in-Matching.ensures in
    leads_to inputs (stands inputs c.args.state.now c.args.next) _ c.match_pattern.new.state c.in_ok-next-in-Matching.next (rw c.in-Matching.is refl) (h.0, h.1 inputs)

pub returns-in_ok-next-in-Matched : goal.returns-in_ok-next-in-Matched
returns-in_ok-next-in-Matched c =
    let inputs = inputs_of c.args.inputs.now in
    let h = c.in_ok-next-in-Matched.ensures in
    leads_to inputs (stands inputs c.args.state.now c.args.next) _ c.match_later.new.state c.in_ok-next-in-Matched.next (rw c.in-Matched.is refl) (h.0, h.1 inputs)

pub returns-in-GoBack : goal.returns-in-GoBack
returns-in-GoBack c = rw c.in-GoBack.is c.go_back.ensures

pub returns-in-Raise : goal.returns-in-Raise
returns-in-Raise c =
    let s = c.args.state.now in
    rw c.in-Raise.is (leads_all (inputs_of c.args.inputs.now) (λ i. state (raise (view c.in-Raise.error)) (frames_in i s) (forks_in i s)) c.raise.new.state c.raise.result c.raise.ensures)

pub returns-in-Leave : goal.returns-in-Leave
returns-in-Leave c =
    let inputs = inputs_of c.args.inputs.now in
    record { from = stands inputs c.args.state.now c.args.next; advances = here; steps = λ f. rw c.in-Leave.is (c.leave.ensures inputs) }

pub returns-in-Quit : goal.returns-in-Quit
returns-in-Quit c = record { from = stands (inputs_of c.args.inputs.now) c.args.state.now c.args.next; advances = here; steps = λ f. rw c.in-Quit.is refl }
