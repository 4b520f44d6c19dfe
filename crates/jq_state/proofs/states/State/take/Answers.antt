use Rattle.std.proofs.Common.{ap, ◌∙◌}
use Rattle.jq_state.specs.Environments.{envs_of}
use Rattle.jq_state.specs.Chains.{frames_at}
use Rattle.jq_state.proofs.Extending.{frames_end}
use Rattle.jq_state.proofs.states.State.take.Goals as goal

pub returns-then-top-eq0-clause-none : goal.returns-then-top-eq0-clause-none
returns-then-top-eq0-clause-none c inputs =
    let s = c.args.self.now in
    let envs = envs_of inputs s.nodes in
    ap (frames_at envs s.frames) c.if-top-eq0.true ∙ frames_end envs s.frames

pub returns-then-top-eq0-clause-end : goal.returns-then-top-eq0-clause-end
returns-then-top-eq0-clause-end c inputs =
    let s = c.args.self.now in
    let envs = envs_of inputs s.nodes in
    ap (frames_at envs s.frames) c.if-top-eq0.true ∙ frames_end envs s.frames
