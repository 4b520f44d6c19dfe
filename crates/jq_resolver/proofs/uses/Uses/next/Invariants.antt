use Rattle.std.proofs.Common.{◌≡◌, ◌≤◌}
use Rattle.jq_resolver.specs.private.Waiting.{names_left, visits_left}
use Rattle.jq_resolver.proofs.uses.Uses.next.Given as goal

-- the remaining names stay the same
abbrev pub invariant-loop-waiting : goal.invariant-loop-waiting
invariant-loop-waiting l = (names_left l.initial.self ≡ names_left l.self) × (visits_left l.self ≤ visits_left l.initial.self)

abbrev pub decreases-loop-waiting : goal.decreases-loop-waiting
decreases-loop-waiting l = visits_left l.self
