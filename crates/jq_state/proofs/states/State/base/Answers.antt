use Rattle.std.proofs.Common.{◌≡◌, ◌+◌, ◌-◌, length, ap, ◌∙◌, arith}
use Rattle.jq_state.proofs.Extending.{last_frames-at}
use Rattle.jq_state.proofs.states.State.base.Goals as goal

pub returns : goal.returns
returns c =
    let forks = c.args.self.now.forks in
    let i = c.len-count.result - 1 in
    let p : length forks.items ≡ i + 1 = omega (arith, c.len-count.ensures, forks.ok.0, c.if-count-eq0.false) in
    ap (λ f. f.frames) c.index.ensures ∙ last_frames-at 0 forks.items c.index.result.now i p
