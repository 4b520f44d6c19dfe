use Rattle.std.proofs.Common.{◌≡◌, List}
use Rattle.jq_meaning.specs.Runs.{Run, Item, before}
use Rattle.jq_engine.specs.Engine.{IsRest}
use Rattle.jq_pages.specs.Pieces.{piece_view}
use Rattle.jq_fold_steps.specs.private.Collecting.{piece_so_far}
use Rattle.jq_fold_steps.proofs.collecting.collect_all.Given as goal

-- the first outputs are in the piece, and the others remain
abbrev pub invariant-loop-turn : goal.invariant-loop-turn
invariant-loop-turn l = (r : Run Item) → IsRest l.fn.engine r → (done : List Item) × (rest : Run Item) × (r ≡ before done rest) × IsRest l.engine rest × (piece_view l.piece ≡ piece_so_far l.fn.style done)
