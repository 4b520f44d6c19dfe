use Rattle.std.proofs.Common.{◌≡◌, drop, map}
use Rattle.std.specs.List.{starts_with, range_with_len}
use Rattle.std.specs.Prelude.{filter}
use Rattle.jv_data.specs.View.{view}
use Rattle.jq_natives.specs.Answers.{count}
use Rattle.jq_natives.proofs.searching.places.Given as goal

abbrev pub invariant-loop-place : goal.invariant-loop-place
invariant-loop-place g l =
    map view l.places.items ≡ map count (filter (λ i. starts_with g.T.PartialEq.eq (drop i l.whole) l.part) (range_with_len 0 l.place))
