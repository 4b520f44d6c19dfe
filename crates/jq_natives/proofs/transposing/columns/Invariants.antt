use Rattle.std.proofs.Common.{◌≡◌, map}
use Rattle.std.specs.List.{range_with_len}
use Rattle.jv_data.specs.View.{view}
use Rattle.jq_natives.specs.Arrays.{column}
use Rattle.jq_natives.specs.private.Lists.{lists_in}
use Rattle.jq_natives.proofs.transposing.columns.Given as goal

abbrev pub invariant-loop-place : goal.invariant-loop-place
invariant-loop-place l = map view l.columns.items ≡ map (column (lists_in l.lists)) (range_with_len 0 l.place)
