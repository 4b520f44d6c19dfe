use Rattle.std.proofs.Common.{◌≡◌, ◌+◌, ◌<◌, ℕ, length}
use Rattle.jv_data.specs.Value.{Value}
use Rattle.jq_meaning.specs.Runs.{Run}
use Rattle.jq_state.specs.Environments.{count_of, envs_of}
use Rattle.jq_state.specs.Nodes.{env_at}
use Rattle.jq_state.proofs.environments.Nodes.copy.Given as goal

-- the first environments are the same
abbrev pub invariant-loop-node : goal.invariant-loop-node
invariant-loop-node l = record {
  count : count_of l.copy ≡ length l.self.program.now.items.items + 1 + l.node-index;
  envs : (inputs : Run Value) (i : ℕ) → i < count_of l.copy → env_at (envs_of inputs l.copy) i ≡ env_at (envs_of inputs l.self) i;
}
