use Rattle.std.proofs.Common.{◌∷◌, [], ap, ◌∙◌, arith, is_ok}
use Rattle.jq_state.specs.Builds.{builds}
use Rattle.jq_state.specs.Links.{last_mark}
use Rattle.jq_state.specs.Chains.{linked}
use Rattle.jq_state.proofs.Chains.{length_after}
use Rattle.jq_state.proofs.Continuing.{frames_fit_after, frame_pushed, last_mark-push}
use Rattle.jq_state.proofs.frames.Frames.push.Goals as goal

pub invariant_of-self : goal.invariant_of-self
invariant_of-self c =
    let fs = c.args.self.now.frames.items in
    let l = length_after (is_ok c.push.result) fs c.push.new.self.items c.args.frame c.push.ensures.items in
    record {
      small = omega (arith, l, c.if-index.false, c.count-index.ensures, c.args.self.now.small);
      fit = frames_fit_after (is_ok c.push.result) fs c.push.new.self.items c.args.frame c.push.ensures.items c.args.self.now.fit c.requires.fits c.requires.rising;
    }

pub returns-clause-mark : goal.returns-clause-mark
returns-clause-mark c = ap (last_mark 0) c.in_ok-push.ensures.items ∙ last_mark-push 0 c.args.self.now.frames.items c.args.frame

pub returns-clause-frames : goal.returns-clause-frames
returns-clause-frames c envs = ap (builds (linked envs) ([] ∷ [])) c.in_ok-push.ensures.items ∙ frame_pushed envs c.args.self.now.frames.items c.args.frame
