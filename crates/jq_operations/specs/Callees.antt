-- What a call finds.
use Rattle.std.specs.Prelude.{ℕ, ◌<◌, List, map}
use Rattle.jv_data.specs.Text.{text_of}
use Rattle.jq_ast.specs.Named.{named}
use Rattle.jq_ast.specs.declared.tree.Function.{Function}
use Rattle.jq_ast.specs.declared.tree.Tree.{Tree}
use Rattle.jq_meaning.specs.Env.{Env, found_function, found_closure, no_callee}
use Rattle.jq_meaning.specs.Env as meaning
use Rattle.jq_state.specs.Nodes.{env_at}
use Rattle.jq_operations.specs.declared.callees.Callee.{Callee}
use Rattle.jq_operations.specs.declared.callees.Callee.TheVariants as callee

-- a function, with the environment that begins with its own binding
abbrev pub found : Function Tree → Env → meaning.Callee
found f own = found_function (map text_of f.parameters.items) (named f.body) own

abbrev pub callee_in : List Env → Callee → meaning.Callee
callee_in envs (callee.Function f own) = found f.now (env_at envs own)
callee_in envs (callee.Closure t own) = found_closure (named t.now) (env_at envs own)
callee_in envs callee.NoCallee = no_callee

-- The environment in a callee exists.
abbrev pub CalleeFits : (count : ℕ) → Callee → Type 0
CalleeFits count (callee.Function f own) = own < count
CalleeFits count (callee.Closure t own) = own < count
CalleeFits count callee.NoCallee = Unit {0}
