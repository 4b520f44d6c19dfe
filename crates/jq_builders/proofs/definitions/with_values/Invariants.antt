use Rattle.std.proofs.Common.{◌≡◌, map, vec_len}
use Rattle.jq_tree.specs.WrittenOut as written
use Rattle.jq_builders.specs.Views.{tree_in, parameter_of}
use Rattle.jq_builders.proofs.definitions.with_values.Given as goal

abbrev pub invariant-loop-parameter : goal.invariant-loop-parameter
invariant-loop-parameter l = written.with_values (map parameter_of l.parameters.items) (tree_in l.body) ≡ written.with_values (map parameter_of l.initial.parameters.items) (tree_in l.initial.body)

abbrev pub decreases-loop-parameter : goal.decreases-loop-parameter
decreases-loop-parameter l = vec_len l.parameters
