use Rattle.std.proofs.Common.{◌≡◌, ◌++◌, ◌∷◌, [], map}
use Rattle.std.specs.List.{range_with_len}
use Rattle.jv_value.specs.Locations.{at}
use Rattle.jv_value.specs.private.Locations.{locations_in}
use Rattle.jv_value.proofs.finding.push_items.Given as goal

abbrev pub invariant-loop-offset : goal.invariant-loop-offset
invariant-loop-offset l = locations_in l.all.items ≡ locations_in l.initial.all.items ++ map (λ i. at i ∷ []) (range_with_len l.from l.offset)
