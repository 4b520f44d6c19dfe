use Rattle.std.proofs.Common.{◌≡◌, ◌∙◌, ◌<◌, ◌≤◌, ◌+◌, ◌-◌, map, length, ap, subst, arith}
use Rattle.std.proofs.lemmas.List.{length-map}
use Rattle.jq_ast.specs.Named.{named}
use Rattle.jq_meaning.specs.Programs.{program_env}
use Rattle.jq_state.specs.Environments.{count_of, envs_of, program_of}
use Rattle.jq_state.specs.Inputs.{inputs_of}
use Rattle.jq_state.specs.Items.{item_of}
use Rattle.jq_state.specs.Links.{scope_in}
use Rattle.jq_state.specs.Listed.{items_in}
use Rattle.jq_state.specs.Nodes.{program_binding, env_at}
use Rattle.jq_state.specs.Views.{envs_in}
use Rattle.jq_state.specs.declared.frames.Scope.{Scope}
use Rattle.jq_engine.proofs.Starting.{start_fits, start_produces}
use Rattle.jq_engine.proofs.engines.Engine.start.Goals as goal

pub invariant_of-result : goal.invariant_of-result
invariant_of-result c =
    let s = c.in_ok-state.state in
    let inputs = inputs_of c.args.inputs in
    let count : c.count.result ≡ count_of s.nodes = c.count.ensures ∙ ap count_of c.nodes-2.ensures in
    let some : count_of s.nodes ≡ length (items_in c.args.program.now) + 1 = c.in_ok-state.ensures.count in
    let within : c.count.result - 1 < count_of s.nodes = omega (arith, count, some) in
    let p : Scope = record { env = c.count.result - 1; depth = c.args.depth; level = 0 } in
    let fit = start_fits c.heights_stay_in_range.ensures.start (named c.args.tree.now) (scope_in (envs_in inputs s) p) (item_of c.plain.result) (c.in_ok-state.ensures.frames inputs) (c.in_ok-state.ensures.forks inputs) in
    record { ready = ∣ (within, fit) ∣₁ }

pub returns : goal.returns
returns c =
    let s = c.in_ok-state.state in
    let inputs = inputs_of c.args.inputs in
    let n = length (items_in c.args.program.now) in
    let count : c.count.result ≡ count_of s.nodes = c.count.ensures ∙ ap count_of c.nodes-2.ensures in
    let some : count_of s.nodes ≡ n + 1 = c.in_ok-state.ensures.count in
    let last : c.count.result - 1 ≡ n = omega (arith, count, some) in
    let all : length (program_of s.nodes) ≡ n = ap length c.in_ok-state.ensures.program ∙ length-map (items_in c.args.program.now) program_binding in
    let within : n ≤ length (program_of s.nodes) = omega (arith, all) in
    let comes : env_at (envs_of inputs s.nodes) n ≡ program_env (program_of s.nodes) n inputs =
    subst (λ ns. n ≤ length (program_of ns) → env_at (envs_of inputs ns) n ≡ program_env (program_of ns) n inputs) c.nodes.ensures (c.program_comes_first.ensures inputs n) within in
    let env : env_at (envs_in inputs s) (c.count.result - 1) ≡ program_env (map program_binding (items_in c.args.program.now)) n inputs =
    ap (env_at (envs_in inputs s)) last ∙ comes ∙ ap (λ bs. program_env bs n inputs) c.in_ok-state.ensures.program in
    let p : Scope = record { env = c.count.result - 1; depth = c.args.depth; level = 0 } in
    start_produces c.the_machine_makes_the_run_of_a_filter.ensures.in_a_scope (named c.args.tree.now) (scope_in (envs_in inputs s) p) (item_of c.plain.result) (c.in_ok-state.ensures.frames inputs) (c.in_ok-state.ensures.forks inputs) env c.plain.ensures
