use Rattle.std.proofs.Common.{◌≡◌, ◌+◌, ◌-◌, length, map}
use Rattle.jv_data.specs.View.{view}
use Rattle.jv_value.specs.SetPath.{filled}
use Rattle.jv_value.proofs.setting.fill.Given as goal

abbrev pub invariant-loop-items : goal.invariant-loop-items
invariant-loop-items l = filled (l.index + 1) (map view l.items.items) ≡ filled (l.index + 1) (map view l.initial.items.items)

abbrev pub decreases-loop-items : goal.decreases-loop-items
decreases-loop-items l = l.index + 1 - length l.items.items
