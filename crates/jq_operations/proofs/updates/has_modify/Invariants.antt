use Rattle.std.proofs.Common.{◌<◌}
use Rattle.jv_data.specs.Value.{Value}
use Rattle.jq_meaning.specs.Runs.{Run}
use Rattle.jq_state.specs.Environments.{count_of, envs_of}
use Rattle.jq_state.specs.Nodes.{env_at}
use Rattle.jq_meaning.specs.updates.Known.{HasModify}
use Rattle.jq_operations.proofs.updates.has_modify.Given as goal

abbrev pub invariant-loop-node : goal.invariant-loop-node
invariant-loop-node l = record {
  within : l.at < count_of l.nodes;
  keeps : (inputs : Run Value) → HasModify (env_at (envs_of inputs l.nodes) l.at) → HasModify (env_at (envs_of inputs l.nodes) l.env);
}

abbrev pub decreases-loop-node : goal.decreases-loop-node
decreases-loop-node l = l.at
