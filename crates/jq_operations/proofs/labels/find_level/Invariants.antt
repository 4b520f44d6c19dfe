use Rattle.std.proofs.Common.{◌≡◌, ◌<◌}
use Rattle.jv_data.specs.Value.{Value}
use Rattle.jq_ast.specs.Named.{name_of}
use Rattle.jq_meaning.specs.Env.{find_level}
use Rattle.jq_meaning.specs.Runs.{Run}
use Rattle.jq_state.specs.Environments.{count_of, envs_of}
use Rattle.jq_state.specs.Nodes.{env_at}
use Rattle.jq_operations.proofs.labels.find_level.Given as goal

abbrev pub invariant-loop-node : goal.invariant-loop-node
invariant-loop-node l = record {
  within : l.at < count_of l.nodes;
  same : (inputs : Run Value) → find_level (name_of l.name) (env_at (envs_of inputs l.nodes) l.at) ≡ find_level (name_of l.name) (env_at (envs_of inputs l.nodes) l.env);
}

abbrev pub decreases-loop-node : goal.decreases-loop-node
decreases-loop-node l = l.at
