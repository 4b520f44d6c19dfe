use Rattle.std.proofs.Common.{◌≡◌, sym, ap, ◌∙◌, arith}
use Rattle.jq_state.specs.Environments.{envs_of}
use Rattle.jq_state.specs.Chains.{frames_at}
use Rattle.jq_state.specs.Views.{without_first}
use Rattle.jq_state.proofs.Extending.{frames_end}
use Rattle.jq_state.proofs.states.State.skip.Goals as goal

pub returns-else-self-gt0-clause-frames : goal.returns-else-self-gt0-clause-frames
returns-else-self-gt0-clause-frames c inputs =
    let s = c.args.self.now in
    let envs = envs_of inputs s.nodes in
    let p : s.top ≡ 0 = omega (arith, c.if-self-gt0.false) in
    let none = ap (frames_at envs s.frames) p ∙ frames_end envs s.frames in
    none ∙ sym (ap without_first none)
