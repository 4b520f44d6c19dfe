use Rattle.jq_state.specs.Links.{scope_in}
use Rattle.jq_state.specs.Steps.{step_in}
use Rattle.jq_state.specs.Views.{envs_in}
use Rattle.jq_engine.proofs.through.passes_first.Goals as goal

pub returns-in-Some : goal.returns-in-Some
returns-in-Some c holds inputs =
    let p = scope_in (envs_in inputs c.args.state.now) c.in-Some.field-0-1 in
    record { frame = step_in c.in-Some.step.now p; first = c.in-Some.ensures.frames inputs; passes = c.passes.ensures holds p }
