use Rattle.std.proofs.Common.{IfOk, ◌≡◌, ◌∙◌, ap, subst}
use Rattle.jq_meaning.specs.machine.Machine.{step_of}
use Rattle.jq_meaning.specs.machine.State.{state, give, go_back}
use Rattle.jq_meaning.specs.machine.State as machine
use Rattle.jq_state.specs.Inputs.{inputs_of}
use Rattle.jq_state.specs.Items.{item_of}
use Rattle.jq_state.specs.Views.{frames_in, forks_in}
use Rattle.jq_engine.specs.private.Leading.{here, by_transition}
use Rattle.jq_transitions.specs.Outcomes.{Steps}
use Rattle.jq_engine.proofs.Leading.{and_then, leads_on, leads_later, later_leads}
use Rattle.jq_engine.proofs.passing.go_back.Goals as goal

pub items-init : goal.items-init
items-init c = record { run = here }

pub returns-in-Some-2 : goal.returns-in-Some-2
returns-in-Some-2 c =
    let inputs = inputs_of c.args.inputs.now in
    let start = state go_back (frames_in inputs c.args.state.now) (forks_in inputs c.args.state.now) in
    let given = c.give_next.new.self in
    let x = item_of c.in-Some.item in
    let came = and_then c.items.invariant.run (by_transition (c.in-Some.ensures.some inputs) here) in
    later_leads inputs start (state (give x) (frames_in inputs given) (forks_in inputs given)) c.pass.new.state c.in-Some-2.progress came (rw c.in-Some-2.is at c.in_ok-progress-in-Some.ensures)

pub items-preserved : goal.items-preserved
items-preserved c =
    let inputs = inputs_of c.args.inputs.now in
    let came = and_then c.items.invariant.run (by_transition (c.in-Some.ensures.some inputs) here) in
    record { run = and_then came (rw c.in_default.is at c.in_ok-progress-in-Some.ensures) }

pub returns-in-None : goal.returns-in-None
returns-in-None c =
    let inputs = inputs_of c.args.inputs.now in
    let start = state go_back (frames_in inputs c.args.state.now) (forks_in inputs c.args.state.now) in
    let s = c.items.state in
    let now = state go_back (frames_in inputs s) (forks_in inputs s) in
    let left = c.give_next.new.self in
    let same : step_of go_back (frames_in inputs left) (forks_in inputs left) ≡ step_of go_back (frames_in inputs s) (forks_in inputs s) =
    ap (λ k. step_of go_back k (forks_in inputs left)) (c.in-None.ensures.none_frames inputs) ∙ ap (step_of go_back (frames_in inputs s)) (c.in-None.ensures.none_forks inputs) in
    leads_later inputs start now c.resume_newest.new.state c.resume_newest.result c.items.invariant.run
    (leads_on inputs now c.resume_newest.new.state c.resume_newest.result (subst (λ (g : machine.Progress). IfOk c.resume_newest.result (Steps inputs g c.resume_newest.new.state)) same c.resume_newest.ensures))

pub returns : goal.returns
returns c =
    let inputs = inputs_of c.args.inputs.now in
    let start = state go_back (frames_in inputs c.args.state.now) (forks_in inputs c.args.state.now) in
    let s = c.items.state in
    let now = state go_back (frames_in inputs s) (forks_in inputs s) in
    leads_later inputs start now c.go_back_once.new.state c.go_back_once.result c.items.invariant.run (leads_on inputs now c.go_back_once.new.state c.go_back_once.result c.go_back_once.ensures)
