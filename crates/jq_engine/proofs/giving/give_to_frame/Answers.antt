use Rattle.std.proofs.Common.{◌≡◌, ◌∙◌, ◌∷◌, sym, ap}
use Rattle.jq_meaning.specs.machine.State.{state, give, moves}
use Rattle.jq_state.specs.Environments.{envs_of}
use Rattle.jq_state.specs.Items.{item_of}
use Rattle.jq_state.specs.Links.{scope_in}
use Rattle.jq_state.specs.Steps.{step_in}
use Rattle.jq_state.specs.Views.{envs_in, frames_in, forks_in}
use Rattle.jq_engine.specs.private.Leading.{here}
use Rattle.jq_engine.proofs.Leading.{leads_at}
use Rattle.jq_engine.proofs.Transitions.{hands_out}
use Rattle.jq_engine.proofs.giving.give_to_frame.Goals as goal

pub returns-in_ok-next-in-Some : goal.returns-in_ok-next-in-Some
returns-in_ok-next-in-Some c inputs =
    let took = c.take.new.self in
    let x = item_of c.args.item in
    let next = c.in_ok-next-in-Some.ensures in
    let same = ap (λ ns. step_in c.in-Some.step (scope_in (envs_of inputs ns) c.in-Some.scope) ∷ frames_in inputs took) (sym c.in_ok-step.ensures.envs) in
    let frames : frames_in inputs c.args.state.now ≡ step_in c.in-Some.step (scope_in (envs_in inputs took) c.in-Some.scope) ∷ frames_in inputs took =
    (rw c.in-Some.is at c.in_ok-step.ensures.frames) inputs ∙ same in
    leads_at inputs (give x) c.receive.new.state _ (sym frames) (c.in_ok-step.ensures.forks inputs)
    (record {
      from = state (give x) (step_in c.in-Some.step (scope_in (envs_in inputs took) c.in-Some.scope) ∷ frames_in inputs took) (forks_in inputs took);
      advances = here;
      steps = λ f. (next.0, ap moves (sym (next.1 inputs)));
    })

pub returns-in-None : goal.returns-in-None
returns-in-None c inputs =
    let s = c.args.state.now in
    let x = item_of c.args.item in
    let none = rw c.in-None.is at c.in_ok-step.ensures.none in
    let end = rw c.in-None.is at c.in_ok-step.ensures.end in
    record { from = state (give x) (frames_in inputs s) (forks_in inputs s); advances = here; steps = λ f. hands_out x (none inputs) (end inputs) (c.in_ok-step.ensures.forks inputs) }
