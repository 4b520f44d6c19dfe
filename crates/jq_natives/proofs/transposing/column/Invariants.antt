use Rattle.std.proofs.Common.{◌≡◌, map, take}
use Rattle.std.specs.Prelude.{slice_get, unwrap_or}
use Rattle.jv_data.specs.Value.{null}
use Rattle.jv_data.specs.View.{view}
use Rattle.jq_natives.specs.private.Lists.{lists_in}
use Rattle.jq_natives.proofs.transposing.column.Given as goal

abbrev pub invariant-loop-list : goal.invariant-loop-list
invariant-loop-list l = map view l.items.items ≡ map (λ r. unwrap_or (slice_get r l.place) null) (lists_in (take l.list-index l.lists))
