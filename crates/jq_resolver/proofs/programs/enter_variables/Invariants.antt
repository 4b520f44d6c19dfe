use Rattle.std.proofs.Common.{◌≡◌, ◌≤◌, ◌++◌, length, drop}
use Rattle.jq_tree.specs.Names.{variables_of}
use Rattle.jq_resolver.specs.Programs.{variable_names}
use Rattle.jq_resolver.specs.private.Scopes.{bound_names}
use Rattle.jq_resolver.proofs.programs.enter_variables.Given as goal

abbrev pub decreases-loop-left : goal.decreases-loop-left
decreases-loop-left l = l.left

abbrev pub invariant-loop-left : goal.invariant-loop-left
invariant-loop-left l = (l.left ≤ length l.variables) × (bound_names l.scope ≡ variables_of (variable_names (drop l.left l.variables)) ++ bound_names l.initial.scope)
