use Rattle.std.proofs.Common.{◌≡◌, ◌+◌, ◌-◌, length, ap, ◌∙◌, arith}
use Rattle.jq_state.specs.Environments.{first_count}
use Rattle.jq_state.proofs.Trimming.{last_envs-at}
use Rattle.jq_state.proofs.states.State.base_envs.Goals as goal

pub returns : goal.returns
returns c =
    let s = c.args.self.now in
    let i = c.len-count.result - 1 in
    let p : length s.forks.items ≡ i + 1 = omega (arith, c.len-count.ensures, s.forks.ok.0, c.if-count-eq0.false) in
    ap (λ f. f.envs) c.index.ensures ∙ last_envs-at (first_count s.nodes) s.forks.items c.index.result.now i p
