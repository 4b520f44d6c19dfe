-- The scope of the code as a scope of the definitions.
use Rattle.jq_tree.specs.Names.{Scope}
use Rattle.jq_ast.specs.declared.tree.Tree.{Tree}
use Rattle.jq_resolver.specs.private.Bindings.{references}
use Rattle.jq_resolver.specs.private.Resolved.{IsResolved}
use Rattle.jq_resolver.specs.declared.scope.Scope as code

-- The innermost first.
abbrev pub bound_names : code.Scope → Scope
bound_names s = references s.bindings

-- A tree is resolved between two scopes of the code.
abbrev pub ResolvedIn : (before after : code.Scope) → (old new : Tree) → Type 0
ResolvedIn before after old new = IsResolved (bound_names before) (bound_names after) old new
