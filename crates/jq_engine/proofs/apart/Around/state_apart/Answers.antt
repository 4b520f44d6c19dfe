use Rattle.std.proofs.Common.{◌≡◌, ◌∙◌, ◌<◌, sym, ap, subst, arith}
use Rattle.jq_state.specs.Environments.{count_of, envs_of}
use Rattle.jq_state.specs.Inputs.{inputs_of}
use Rattle.jq_state.specs.Links.{scope_in}
use Rattle.jq_state.specs.Nodes.{env_at}
use Rattle.jq_state.specs.Views.{envs_in}
use Rattle.jq_engine.specs.private.Updates.{env_in}
use Rattle.jq_engine.proofs.Starting.{start_fits, start_produces}
use Rattle.jq_engine.proofs.apart.Around.state_apart.Goals as goal

pub returns : goal.returns
returns c t p x y low same =
    let a = c.args.self.now in
    let inputs = inputs_of a.inputs.now in
    let s = c.over.result in
    let q = scope_in (envs_in inputs s) p in
    let within : p.env < count_of c.nodes.result.now = subst (λ ns. p.env < count_of ns) (sym c.nodes.ensures) low in
    let count : count_of s.nodes ≡ count_of c.nodes.result.now = ap count_of c.over.ensures.nodes ∙ c.in_ok-nodes.ensures.count in
    let env : env_at (envs_in inputs s) p.env ≡ env_in a p =
    ap (λ ns. env_at (envs_of inputs ns) p.env) c.over.ensures.nodes ∙ c.in_ok-nodes.ensures.envs inputs p.env within ∙ ap (λ ns. env_at (envs_of inputs ns) p.env) c.nodes.ensures in
    record {
      there = omega (arith, count, within);
      fit = start_fits c.heights_stay_in_range.ensures.start t q x (c.over.ensures.frames inputs) (c.over.ensures.forks inputs);
      produces = start_produces c.the_machine_makes_the_run_of_a_filter.ensures.in_a_scope t q x (c.over.ensures.frames inputs) (c.over.ensures.forks inputs) env same;
    }
