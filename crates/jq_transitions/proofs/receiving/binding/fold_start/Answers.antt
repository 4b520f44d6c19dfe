use Rattle.std.proofs.Common.{◌∙◌, refl}
use Rattle.jq_state.specs.Links.{scope_in}
use Rattle.jq_state.specs.Views.{envs_in}
use Rattle.jq_state.specs.declared.next.Next.TheVariants.{Evaluate}
use Rattle.jq_transitions.proofs.Comings.{came}
use Rattle.jq_transitions.proofs.receiving.binding.fold_start.Goals as goal

pub returns : goal.returns
returns c =
    let s = c.args.state.now in
    let forked = c.in_ok-fork.ensures in
    let pushed = c.in_ok-push-2.ensures in
    came s c.push-2.new.self (Evaluate c.args.source c.args.scope c.into_plain.result) (pushed.envs ∙ forked.envs) c.requires pushed.frames pushed.forks
    (λ inputs. rw (
      forked.frames inputs,
      forked.forks inputs,
      forked.envs,
      c.in_ok-new.ensures.ok,
      c.at_end.ensures (scope_in (envs_in inputs s) c.args.scope),
      c.in_ok-push.ensures.items,
      c.new-cell.ensures.items,
      c.into_plain.ensures,
      ← (c.height-height.ensures inputs),
    ) refl)
