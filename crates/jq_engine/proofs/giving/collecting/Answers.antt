use Rattle.std.proofs.Common.{◌∙◌, ◌∷◌, ap}
use Rattle.jq_state.specs.Links.{scope_in}
use Rattle.jq_state.specs.Views.{envs_in, frames_in, without_first}
use Rattle.jq_engine.proofs.Leading.{if_some}
use Rattle.jq_engine.proofs.giving.collecting.Goals as goal

pub returns : goal.returns
returns c =
    let s = c.args.state.now in
    if_some c.collect_in.result
    (λ h e inputs. c.in_ok-step.ensures.frames inputs ∙ ap (λ f. f ∷ without_first (frames_in inputs s)) (e (scope_in (envs_in inputs s) c.in_ok-step.field-0-1)))
    c.collect_in.ensures
