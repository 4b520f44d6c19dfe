use Rattle.std.proofs.Common.{◌≡◌, ◌+◌, ◌-◌, ◌<◌, ◌≤◌, ◌∷◌, length, sym, ap, subst, ◌∙◌, arith}
use Rattle.jq_state.specs.Links.{frame_in, FrameFits}
use Rattle.jq_state.specs.Chains.{frames_at, mark_of}
use Rattle.jq_state.proofs.Continuing.{frames_fit-at, mark-at, frame_read}
use Rattle.jq_state.proofs.frames.Frames.get.Goals as goal

pub returns-clause-fits : goal.returns-clause-fits
returns-clause-fits c =
    let k = c.args.index - 1 in
    let within : k < length c.args.self.now.frames.items = omega (arith, c.requires.first, c.requires.within) in
    let p : k ≡ 0 + k = omega arith in
    subst (FrameFits k) (sym c.index.ensures) (frames_fit-at 0 0 c.args.self.now.frames.items k k c.index.result.now within p c.args.self.now.fit)

pub returns-clause-mark : goal.returns-clause-mark
returns-clause-mark c =
    let k = c.args.index - 1 in
    let within : k < length c.args.self.now.frames.items = omega (arith, c.requires.first, c.requires.within) in
    subst (λ f. f.mark ≤ mark_of c.args.self.now) (sym c.index.ensures) (mark-at 0 0 c.args.self.now.frames.items k c.index.result.now within c.args.self.now.fit)

pub returns-clause-frames : goal.returns-clause-frames
returns-clause-frames c envs =
    frame_read envs c.args.self.now.frames.items c.args.index c.index.result.now c.args.self.now.fit c.requires.first c.requires.within
    ∙ ap (λ f. frame_in envs f ∷ frames_at envs c.args.self.now f.next) (sym c.index.ensures)
