use Rattle.std.proofs.Common.{◌≡◌, ◌++◌, map, take}
use Rattle.jv_data.specs.View.{view}
use Rattle.jq_pages.specs.Pieces.{piece_view}
use Rattle.jq_pages.specs.Folds.{Rises, state_after, pieces_after}
use Rattle.jq_pages.proofs.running.run_on.Given as goal

abbrev pub invariant-loop-input : goal.invariant-loop-input
invariant-loop-input g l = record {
  exit : g.S.Steps.seen l.state ≡ state_after (g.S.Steps.fold l.fn.steps) (g.S.Steps.seen l.fn.state) (map view (take l.input-index l.inputs));
  pieces : map piece_view l.pieces.items.items ≡ map piece_view l.fn.pieces.items.items ++ pieces_after (g.S.Steps.fold l.fn.steps) (g.S.Steps.seen l.fn.state) (map view (take l.input-index l.inputs));
  same : g.S.Steps.fold l.steps ≡ g.S.Steps.fold l.fn.steps;
  rises : Rises (g.S.Steps.starts l.fn.steps) (g.S.Steps.starts l.steps) l.input-index;
}
