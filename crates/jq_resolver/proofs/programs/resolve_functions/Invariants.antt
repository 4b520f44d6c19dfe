use Rattle.std.proofs.Common.{◌≡◌, ◌≤◌, ℕ, length, get_or, take}
use Rattle.jq_ast.specs.declared.tree.Function.{Function}
use Rattle.jq_ast.specs.declared.tree.Tree.{Tree}
use Rattle.jq_resolver.specs.private.Resolved.{Chain, IsDefinitionResolved}
use Rattle.jq_resolver.specs.private.Scopes.{bound_names}
use Rattle.jq_resolver.proofs.programs.resolve_functions.Given as goal

abbrev pub invariant-loop-i : goal.invariant-loop-i
invariant-loop-i l =
    ((length l.functions.items ≡ length l.initial.functions.items) × ((k : ℕ) (d : Function Tree) → l.i ≤ k → get_or l.functions.items k d ≡ get_or l.initial.functions.items k d))
    × Chain IsDefinitionResolved (bound_names l.initial.scope) (bound_names l.scope) (take l.i l.initial.functions.items) (take l.i l.functions.items)
