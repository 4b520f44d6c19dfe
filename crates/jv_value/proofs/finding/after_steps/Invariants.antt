use Rattle.std.proofs.Common.{◌≡◌, length, map}
use Rattle.jv_value.specs.private.Locations.{locations_in}
use Rattle.jv_value.specs.private.Steps.{before_all, stride_of}
use Rattle.jv_value.proofs.finding.after_steps.Given as goal

abbrev pub invariant-loop-step : goal.invariant-loop-step
invariant-loop-step l = before_all (map stride_of l.steps.items) (locations_in l.locations.items) ≡ before_all (map stride_of l.fn.steps.items) (locations_in l.fn.locations.items)

abbrev pub decreases-loop-step : goal.decreases-loop-step
decreases-loop-step l = length l.steps.items
