-- The environments that the nodes of a run represent, by index.
use Rattle.std.specs.Prelude.{ℕ, ◌+◌, List, length}
use Rattle.jv_data.specs.Value.{Value}
use Rattle.jq_meaning.specs.Env.{Env, outermost}
use Rattle.jq_meaning.specs.Env as env
use Rattle.jq_meaning.specs.Runs.{Run}
use Rattle.jq_state.specs.Builds.{builds}
use Rattle.jq_state.specs.Listed.{bindings_in}
use Rattle.jq_state.specs.Nodes.{program_envs, node_in}
use Rattle.jq_state.specs.declared.environments.Nodes.{Nodes}

-- The program's own bindings, the outermost first.
abbrev pub program_of : Nodes → List env.Binding
program_of ns = bindings_in ns.program.now

abbrev pub count_of : Nodes → ℕ
count_of ns = length ns.program.now.items.items + length ns.nodes.items + 1

-- The index of the first node's environment.
abbrev pub first_count : Nodes → ℕ
first_count ns = length ns.program.now.items.items + 1

abbrev pub envs_of : (inputs : Run Value) → Nodes → List Env
envs_of inputs ns = builds node_in (program_envs (program_of ns) (outermost inputs)) ns.nodes.items
