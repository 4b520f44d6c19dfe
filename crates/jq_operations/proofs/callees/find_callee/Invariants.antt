use Rattle.std.proofs.Common.{◌≡◌, ◌<◌}
use Rattle.jv_data.specs.Value.{Value}
use Rattle.jq_ast.specs.Named.{name_of}
use Rattle.jq_meaning.specs.Env.{find_callee}
use Rattle.jq_meaning.specs.Runs.{Run}
use Rattle.jq_state.specs.Environments.{count_of, envs_of}
use Rattle.jq_state.specs.Nodes.{env_at}
use Rattle.jq_operations.proofs.callees.find_callee.Given as goal

abbrev pub invariant-loop-node : goal.invariant-loop-node
invariant-loop-node l = record {
  within : l.at < count_of l.nodes;
  same : (inputs : Run Value) → find_callee (name_of l.name) l.count (env_at (envs_of inputs l.nodes) l.at) ≡ find_callee (name_of l.name) l.count (env_at (envs_of inputs l.nodes) l.env);
}

abbrev pub decreases-loop-node : goal.decreases-loop-node
decreases-loop-node l = l.at
