-- The binders in a pattern and in a part of one, with a number of bindings around it.
use Rattle.std.specs.Prelude.{ℕ}
use Rattle.jq_tree.specs.BoundTree.{BoundTree, BoundPattern, BoundPart}
use Rattle.jq_ast.specs.Bound.{Around, bound_member, bound_pattern, bound_tree}
use Rattle.jq_ast.specs.declared.tree.Member.{Member}
use Rattle.jq_ast.specs.declared.tree.Pattern.{Pattern}
use Rattle.jq_ast.specs.declared.tree.Member.TheFolds.{fold-Pattern, fold-Member}

abbrev pub bound_as_pattern : Pattern → (around : ℕ) → BoundPattern
bound_as_pattern = fold-Pattern (Around BoundPart) (Around BoundPattern) (Around BoundTree) bound_member bound_pattern bound_tree

abbrev pub bound_as_part : Member → (around : ℕ) → BoundPart
bound_as_part = fold-Member (Around BoundPart) (Around BoundPattern) (Around BoundTree) bound_member bound_pattern bound_tree
