use Rattle.std.proofs.Common.{[], ◌∷◌, ◌++◌, refl}
use Rattle.jv_data.proofs.shared.Results.{if_ok_map}
use Rattle.jq_folds.specs.Pieces.{with_state}
use Rattle.jq_fold_steps.proofs.Outputs.{before-more, before-end}
use Rattle.jq_fold_steps.proofs.collecting.collect_step.Goals as goal

pub loop-turn-init : goal.loop-turn-init
loop-turn-init c = λ r is. ([], [], r, refl, is, (refl, refl), c.empty_piece-piece.ensures)

pub loop-turn-preserved : goal.loop-turn-preserved
loop-turn-preserved c = λ r is.
    let so_far = c.loop-turn.invariant r is in
    let turn = c.in-Output.ensures.turns so_far.2 so_far.4 in (
      so_far.0 ++ so_far.1,
      turn.0 ∷ [],
      turn.1,
      before-more r so_far.2 turn.1 (so_far.0 ++ so_far.1) turn.0 so_far.3 turn.2,
      turn.4,
      (turn.0, refl, turn.3),
      c.in_ok-add_held-in-Output.ensures so_far.0 so_far.1 so_far.6 so_far.5,
    )

pub returns-in-End : goal.returns-in-End
returns-in-End c = if_ok_map c.end_step.result c.end_step.ensures (λ k p s leads is.
    let so_far = c.loop-turn.invariant (with_state s) is in
    let turn = c.in-End.ensures.turns so_far.2 so_far.4 in
    p s so_far.0 so_far.1 leads so_far.6 so_far.5 (before-end (with_state s) so_far.2 (so_far.0 ++ so_far.1) _ so_far.3 turn.0))
