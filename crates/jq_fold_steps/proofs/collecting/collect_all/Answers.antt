use Rattle.std.proofs.Common.{◌∙◌, [], ◌∷◌, ◌++◌, refl, sym, ap}
use Rattle.jq_transitions.specs.Outcomes.{ending_of}
use Rattle.jq_filters.specs.Pieces.{piece_of}
use Rattle.jq_fold_steps.proofs.Outputs.{one-more, at-end, before-more, before-end}
use Rattle.jq_fold_steps.proofs.collecting.collect_all.Goals as goal

pub loop-turn-init : goal.loop-turn-init
loop-turn-init c = λ r is. ([], r, refl, is, c.empty_piece-piece.ensures)

pub loop-turn-preserved : goal.loop-turn-preserved
loop-turn-preserved c = λ r is.
    let so_far = c.loop-turn.invariant r is in
    let turn = c.in-Output.ensures.turns so_far.1 so_far.3 in (
      so_far.0 ++ turn.0 ∷ [],
      turn.1,
      before-more r so_far.1 turn.1 so_far.0 turn.0 so_far.2 turn.2,
      turn.4,
      one-more c.args.style so_far.0 turn.0 _ _ _ turn.3 so_far.4 c.in_ok-add_output-in-Output.ensures,
    )

pub returns-in-End : goal.returns-in-End
returns-in-End c = λ r is.
    let so_far = c.loop-turn.invariant r is in
    let turn = c.in-End.ensures.turns so_far.1 so_far.3 in
    at-end c.args.style so_far.0 (ending_of c.in-End.ending) _ _ so_far.4 c.in_ok-report-in-End.ensures ∙ ap (piece_of c.args.style) (sym (before-end r so_far.1 so_far.0 (ending_of c.in-End.ending) so_far.2 turn.0))
