use Rattle.std.proofs.Common.{◌≡◌, length}
use Rattle.jv_data.specs.Value.{Value}
use Rattle.jq_ast.specs.Named.{name_of}
use Rattle.jq_meaning.specs.Env.{find_callee}
use Rattle.jq_meaning.specs.Runs.{Run}
use Rattle.jq_single.specs.private.Scopes.{scope_env}
use Rattle.jq_single.proofs.contexts.Context.called_by_name.Given as goal

-- the same is found in the scopes that are left
abbrev pub invariant-scopes : goal.invariant-scopes
invariant-scopes l = (inputs : Run Value) → find_callee (name_of l.name) (length l.arguments) (scope_env inputs l.scope) ≡ find_callee (name_of l.name) (length l.arguments) (scope_env inputs l.initial.scope)
