use Rattle.std.proofs.Common.{◌∙◌, refl, sym}
use Rattle.jq_state.proofs.shared.Items.{absent}
use Rattle.jq_transitions.proofs.Moving.{meets}
use Rattle.jq_transitions.proofs.evaluating.values.enter_array.Goals as goal

pub returns : goal.returns
returns c =
    let alone = absent c.args.input (sym c.is_present.ensures ∙ c.if-is_present.false) in
    let forked = c.in_ok-fork.ensures in
    meets c.run_holding.result _ _ c.run_holding.new.state
    (λ inputs. rw (forked.frames inputs, forked.forks inputs, c.fork.ensures.envs, c.new.ensures.items, alone, ← (c.height-height.ensures inputs)) refl)
    c.run_holding.ensures
