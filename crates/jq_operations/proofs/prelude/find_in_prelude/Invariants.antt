use Rattle.std.proofs.Common.{◌≡◌, ◌<◌}
use Rattle.jv_data.specs.Value.{Value}
use Rattle.jq_ast.specs.Named.{name_of}
use Rattle.jq_meaning.specs.Env.{callee_or, find_in_prelude}
use Rattle.jq_meaning.specs.Runs.{Run}
use Rattle.jq_state.specs.Environments.{count_of, envs_of}
use Rattle.jq_state.specs.Nodes.{env_at}
use Rattle.jq_operations.specs.Callees.{CalleeFits, callee_in}
use Rattle.jq_operations.proofs.prelude.find_in_prelude.Given as goal

abbrev pub invariant-loop-node : goal.invariant-loop-node
invariant-loop-node l = record {
  within : l.at < count_of l.nodes;
  fits : CalleeFits (count_of l.nodes) l.outermost;
  same : (inputs : Run Value) → callee_or (find_in_prelude (name_of l.name) l.count (env_at (envs_of inputs l.nodes) l.at)) (callee_in (envs_of inputs l.nodes) l.outermost)
      ≡ find_in_prelude (name_of l.name) l.count (env_at (envs_of inputs l.nodes) l.env);
}

abbrev pub decreases-loop-node : goal.decreases-loop-node
decreases-loop-node l = l.at
