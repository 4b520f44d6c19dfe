use Rattle.std.proofs.Common.{◌≡◌}
use Rattle.jq_tree.specs.Binders.{uses, without_binder}
use Rattle.jq_resolver.specs.Programs.{bound_program}
use Rattle.jq_resolver.specs.private.Waiting.{names_left, visits_left}
use Rattle.jq_resolver.proofs.unbound.first_undefined.Given as goal

-- each name before has its binder
abbrev pub invariant-loop-uses : goal.invariant-loop-uses
invariant-loop-uses l = without_binder (uses (bound_program l.functions l.tree l.variables)) ≡ without_binder (names_left l.uses)

abbrev pub decreases-loop-uses : goal.decreases-loop-uses
decreases-loop-uses l = visits_left l.uses
