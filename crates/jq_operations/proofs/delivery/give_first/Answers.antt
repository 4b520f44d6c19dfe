use Rattle.std.proofs.Common.{◌∷◌, map, refl, ap, ◌∙◌}
use Rattle.jq_meaning.specs.machine.State.{fork}
use Rattle.jq_state.specs.Forks.{choice_in}
use Rattle.jq_state.specs.Items.{item_of}
use Rattle.jq_state.specs.Views.{envs_in, frames_in, forks_in}
use Rattle.jq_state.specs.declared.next.Next.TheVariants.{Give}
use Rattle.jq_operations.specs.private.Outermost.{outermost_scope}
use Rattle.jq_operations.proofs.Coming.{comes}
use Rattle.jq_operations.proofs.delivery.give_first.Goals as goal

pub returns : goal.returns
returns c =
    let s = c.args.state.now in
    comes s c.fork.new.self (Give c.args.item) _ _ _ c.fork.ensures.envs tt (λ inputs. refl) c.in_ok-fork.ensures.frames
    (λ inputs. c.in_ok-fork.ensures.forks inputs
    ∙ ap (λ xs. fork (choice_in c.args.others (outermost_scope (envs_in inputs s))) (map item_of xs) (frames_in inputs s) ∷ forks_in inputs s) c.new.ensures.items)
