use Rattle.std.proofs.Common.{refl}
use Rattle.jq_transitions.proofs.Moving.{meets}
use Rattle.jq_transitions.proofs.evaluating.composition.enter_alternative.Goals as goal

pub returns : goal.returns
returns c =
    let forked = c.in_ok-fork.ensures in
    meets c.run_holding.result _ _ c.run_holding.new.state
    (λ inputs. rw (forked.frames inputs, forked.forks inputs, c.fork.ensures.envs, c.new.ensures.items, c.in_ok-kept.ensures, ← (c.height-height.ensures inputs)) refl)
    c.run_holding.ensures
