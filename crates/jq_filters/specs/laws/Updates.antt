-- The prelude's `_modify`, which `f |= g` calls, in the bindings of a program.
use Rattle.std.specs.Prelude.{◌≡◌, ◌+◌, ℕ, List, Some, length, map}
use Rattle.jv_data.specs.Value.{Value}
use Rattle.jq_tree.specs.Prelude.{IsPrelude, followed_by}
use Rattle.jq_tree.specs.Tree as tree
use Rattle.jq_ast.specs.Named.{named}
use Rattle.jq_ast.specs.declared.tree.Function.{Function}
use Rattle.jq_ast.specs.declared.tree.Tree.{Tree}
use Rattle.jq_meaning.specs.laws.Added.{functions_before}
use Rattle.jq_resolver.specs.Programs.{named_program}
use Rattle.jq_state.specs.Modify.{KnowsModify}
use Rattle.jq_syntax.specs.laws.Computed.{prelude}
use Rattle.jq_filters.specs.Programs.{bindings_of, function_binding}

-- The functions of a program that is the prelude and then a filter are the prelude's.
abbrev pub FunctionsAreThePreludes : Type 0
FunctionsAreThePreludes = (fs : List (Function Tree)) (t : Tree) (p : tree.Tree) → IsPrelude p → named_program fs t ≡ followed_by p (named t)
    → map function_binding fs ≡ functions_before prelude

-- The number of the prelude's functions up to `_modify`.
abbrev pub up_to_modify : ℕ
up_to_modify = 36

-- The last of the variables and so many functions is `_modify`.
abbrev pub ModifyIsKnown : Type 0
ModifyIsKnown = (vs : List (tree.Name × Value)) (fs : List (Function Tree)) → map function_binding fs ≡ functions_before prelude
    → KnowsModify (bindings_of vs fs) (Some (length vs + up_to_modify))
