use Rattle.std.proofs.Common.{refl}
use Rattle.jq_transitions.proofs.Moving.{meets}
use Rattle.jq_transitions.proofs.evaluating.composition.enter_try.Goals as goal

pub returns : goal.returns
returns c =
    meets c.run_holding.result _ _ c.run_holding.new.state
    (λ inputs. rw (c.in_ok-kept.ensures, ← (c.height-height.ensures inputs)) refl)
    c.run_holding.ensures
