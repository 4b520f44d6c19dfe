-- The uses and the visits of bindings and folds. `n` is the number of binders around them.
use Rattle.std.specs.Prelude.{ℕ, ◌+◌, List, ◌++◌}
use Rattle.jq_tree.specs.Binders.{Use, in_text_order, uses, uses_pattern}
use Rattle.jq_tree.specs.BoundTree.{BoundTree}
use Rattle.jq_ast.specs.Bound.{bound, variables_in}
use Rattle.jq_ast.specs.declared.tree.Pattern.{Pattern}
use Rattle.jq_ast.specs.declared.tree.Tree.{Tree}
use Rattle.jq_resolver.specs.private.BoundParts.{bound_as_pattern}
use Rattle.jq_resolver.specs.private.Visits.{pattern_visits, tree_visits}

-- a filter after a pattern
abbrev pub bound_after : Pattern → Tree → (n : ℕ) → BoundTree
bound_after q t n = bound t (n + variables_in (bound_as_pattern q n))

-- the uses of `f as P | g`, and others
abbrev pub binding_uses : (source : Tree) → Pattern → (body : Tree) → (n : ℕ) → List Use → List Use
binding_uses source q body n others =
    in_text_order (bound_as_pattern q n) (uses (bound source n)) (uses_pattern (bound_as_pattern q n) ++ uses (bound_after q body n)) ++ others

abbrev pub binding_visits : (source : Tree) → Pattern → (body : Tree) → (n : ℕ) → ℕ
binding_visits source q body n = tree_visits (bound source n) + pattern_visits (bound_as_pattern q n) + tree_visits (bound_after q body n)

-- the uses of a fold without its last part, and others
abbrev pub fold_uses : (source : Tree) → Pattern → (start update : Tree) → (n : ℕ) → List Use → List Use
fold_uses source q start update n others =
    uses (bound source n) ++ uses_pattern (bound_as_pattern q n) ++ uses (bound start n) ++ uses (bound_after q update n) ++ others

abbrev pub fold_visits : (source : Tree) → Pattern → (start update : Tree) → (n : ℕ) → ℕ
fold_visits source q start update n =
    tree_visits (bound source n) + pattern_visits (bound_as_pattern q n) + tree_visits (bound start n) + tree_visits (bound_after q update n)
