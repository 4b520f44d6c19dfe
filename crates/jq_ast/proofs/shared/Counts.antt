-- How many trees there are.
use Rattle.std.proofs.Common.{◌≡◌, suc, List, [], ◌∷◌, map, length, ap, refl}
use Rattle.jq_tree.specs.Tree.{trees_of, trees_count}
use Rattle.jq_ast.specs.Named.{named}
use Rattle.jq_ast.specs.declared.tree.Tree.{Tree}

pub count_trees : (ts : List Tree) → trees_count (trees_of (map named ts)) ≡ length ts
count_trees [] = refl
count_trees (t ∷ ts) = ap suc (count_trees ts)
