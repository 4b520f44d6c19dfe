use Rattle.std.proofs.Common.{refl}
use Rattle.jq_transitions.proofs.receiving.holding.hold.Goals as goal
use Rattle.jq_transitions.proofs.receiving.holding.hold.Goals.{in-FoldUpdate, in-Collect, in-LeftSide, in-TryBody, in-LabelBody}

pub returns : goal.returns
returns c = elim c.match-step.branch [
  | in-FoldUpdate w ↦ rw (w.result-is, w.state-is, w.in-FoldUpdate.is) w.fold_update.ensures
  | in-Collect w ↦ rw (w.result-is, w.state-is, w.in-Collect.is) w.collect.ensures
  | in-LeftSide w ↦ rw (w.result-is, w.state-is, w.in-LeftSide.is) w.left_side.ensures
  | in-TryBody w ↦ rw (w.result-is, w.state-is, w.in-TryBody.is) (tt, λ inputs. refl)
  | in-LabelBody w ↦ rw (w.result-is, w.state-is, w.in-LabelBody.is) (tt, λ inputs. refl)
]
