use Rattle.std.proofs.Common.{◌≡◌, ◌++◌, map}
use Rattle.jv_data.specs.View.{items_view, view}
use Rattle.jq_natives.specs.Arrays.{opened}
use Rattle.jq_natives.proofs.Opened.{left_in, steps_in}
use Rattle.jq_natives.proofs.flattening.opened.Given as goal

-- the result depends only on what is left
abbrev pub invariant-loop-level : goal.invariant-loop-level
invariant-loop-level l = opened l.fn.levels (items_view l.fn.items) ≡ map view l.flat.items ++ left_in l.open.items

abbrev pub decreases-loop-level : goal.decreases-loop-level
decreases-loop-level l = steps_in l.open.items
