use Rattle.std.proofs.Common.{◌≡◌, ◌<◌, map}
use Rattle.std.specs.Iterator.Adapters.{zip_first, zip_second}
use Rattle.std.specs.Slice.Iter.{iter_rest}
use Rattle.jv_data.specs.Value.{Value}
use Rattle.jv_data.specs.Text.{text_of}
use Rattle.jq_ast.specs.Named.{named}
use Rattle.jq_tree.specs.Tree.{trees_of}
use Rattle.jq_meaning.specs.Env.{with_arguments}
use Rattle.jq_meaning.specs.Runs.{Run}
use Rattle.jq_state.specs.Environments.{count_of}
use Rattle.jq_state.specs.Nodes.{env_at}
use Rattle.jq_state.specs.Views.{envs_in, frames_in, forks_in}
use Rattle.jq_operations.proofs.call_arguments.bind_arguments.Given as goal

abbrev pub invariant-loop-parameter : goal.invariant-loop-parameter
invariant-loop-parameter l =
    let ps = map text_of (iter_rest (zip_first l.parameter-iterator)) in
    let ts = trees_of (map named (iter_rest (zip_second l.parameter-iterator))) in
    record {
      caller : l.caller < count_of l.state.nodes;
      within : l.env < count_of l.state.nodes;
      kept : (inputs : Run Value) → env_at (envs_in inputs l.state) l.caller ≡ env_at (envs_in inputs l.fn.state) l.caller;
      same : (inputs : Run Value) → with_arguments ps ts (env_at (envs_in inputs l.fn.state) l.caller) (env_at (envs_in inputs l.state) l.env)
          ≡ with_arguments (map text_of l.parameters) (trees_of (map named l.arguments)) (env_at (envs_in inputs l.fn.state) l.caller) (env_at (envs_in inputs l.fn.state) l.own);
      frames : (inputs : Run Value) → frames_in inputs l.state ≡ frames_in inputs l.fn.state;
      forks : (inputs : Run Value) → forks_in inputs l.state ≡ forks_in inputs l.fn.state;
    }
