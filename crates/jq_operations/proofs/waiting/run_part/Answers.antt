use Rattle.std.proofs.Common.{◌∷◌, refl, ap, ◌∙◌}
use Rattle.jq_state.specs.Links.{scope_in}
use Rattle.jq_state.specs.Steps.{making_in}
use Rattle.jq_state.specs.Views.{envs_in, frames_in}
use Rattle.jq_state.specs.declared.next.Next.TheVariants.{Evaluate}
use Rattle.jq_operations.proofs.Coming.{comes}
use Rattle.jq_operations.proofs.waiting.run_part.Goals as goal

pub returns : goal.returns
returns c =
    let s = c.args.state.now in
    comes s c.push.new.self (Evaluate c.args.part c.args.scope c.args.input) _ _ _ c.push.ensures.envs c.requires (λ inputs. refl)
    (λ inputs. c.in_ok-push.ensures.frames inputs ∙ ap (λ f. making_in f (scope_in (envs_in inputs s) c.args.scope) ∷ frames_in inputs s) c.in_ok-new.ensures.ok)
    c.in_ok-push.ensures.forks
