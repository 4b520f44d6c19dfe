-- The environment that a scope represents.
use Rattle.std.specs.Prelude.{List, map, String}
use Rattle.std.specs.declared.alloc.Global.{Global}
use Rattle.jv_data.specs.Text.{text_of}
use Rattle.jv_data.specs.Value.{Value}
use Rattle.jv_data.specs.View.{view}
use Rattle.jq_ast.specs.Named.{named}
use Rattle.jq_ast.specs.declared.tree.Tree.{Tree}
use Rattle.jq_tree.specs.Tree.{trees_of}
use Rattle.jq_meaning.specs.Env.{Env, bound, with_arguments}
use Rattle.jq_meaning.specs.Env as env
use Rattle.jq_meaning.specs.Runs.{Run}
use Rattle.jq_state.specs.Environments.{envs_of}
use Rattle.jq_state.specs.Nodes.{env_at}
use Rattle.jq_single.specs.declared.scopes.Outside.{Outside}
use Rattle.jq_single.specs.declared.scopes.Scope.{Scope}
use Rattle.jq_single.specs.declared.scopes.Scope.TheVariants as scope

-- The environment of a body: its own, with the parameters bound to the arguments of the caller.
abbrev pub body_env : List (String Global) → List Tree → (caller own : Env) → Env
body_env ps ts caller own = with_arguments (map text_of ps) (trees_of (map named ts)) caller own

abbrev pub scope_env : Run Value → Scope → Env
scope_env inputs (scope.Run o) = env_at (envs_of inputs o.nodes.now) o.env
scope_env inputs (scope.Value' p outer name v) = bound (env.value_of (text_of name.now) (view v.now)) (scope_env inputs outer)
scope_env inputs (scope.Function' p outer f) = bound (env.function (text_of f.now.name) (map text_of f.now.parameters.items) (named f.now.body)) (scope_env inputs outer)
scope_env inputs (scope.Call' p own ps ts q caller) = body_env ps.now ts.now (scope_env inputs caller) (scope_env inputs own)

-- The environment of the run in which a scope's bindings are.
abbrev pub outside_in : Scope → Outside
outside_in (scope.Run o) = o
outside_in (scope.Value' p outer name v) = outside_in outer
outside_in (scope.Function' p outer f) = outside_in outer
outside_in (scope.Call' p own ps ts q caller) = outside_in own
