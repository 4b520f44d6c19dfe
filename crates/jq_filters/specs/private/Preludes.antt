-- Programs that begin with the prelude.
use Rattle.std.specs.Prelude.{◌≡◌, List}
use Rattle.jq_tree.specs.Prelude.{IsPrelude, followed_by}
use Rattle.jq_tree.specs.Tree as tree
use Rattle.jq_ast.specs.Named.{named}
use Rattle.jq_ast.specs.declared.tree.Function.{Function}
use Rattle.jq_ast.specs.declared.tree.Tree.{Tree}
use Rattle.jq_resolver.specs.Programs.{named_program}

-- The functions and then a tree are the prelude and then this tree.
pub record IsPreludeBefore (functions : List (Function Tree)) (t : Tree) : Type 0 where
  pub prelude : tree.Tree
  pub is_prelude : IsPrelude prelude
  pub definitions : named_program functions t ≡ followed_by prelude (named t)
