use Rattle.std.proofs.Common.{◌≡◌, map, vec_len}
use Rattle.jq_builders.specs.Trees as built
use Rattle.jq_builders.specs.Views.{tree_in, branch_of}
use Rattle.jq_builders.proofs.trees.choices.Given as goal

abbrev pub invariant-loop-branch : goal.invariant-loop-branch
invariant-loop-branch l = built.onto built.branch_before (map branch_of l.branches.items) (tree_in l.t) ≡ built.onto built.branch_before (map branch_of l.initial.branches.items) (tree_in l.initial.t)

abbrev pub decreases-loop-branch : goal.decreases-loop-branch
decreases-loop-branch l = vec_len l.branches
