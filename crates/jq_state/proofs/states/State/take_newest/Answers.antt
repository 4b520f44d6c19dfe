use Rattle.std.proofs.Common.{◌<◌, arith}
use Rattle.jq_state.specs.Environments.{envs_of}
use Rattle.jq_state.specs.Chains.{height_of}
use Rattle.jq_state.specs.Forks.{last_frames}
use Rattle.jq_state.proofs.Extending.{fits_taken, frames_taken, forks_after}
use Rattle.jq_state.proofs.states.State.take_newest.Goals as goal

pub invariant_of-self-2 : goal.invariant_of-self-2
invariant_of-self-2 c =
    let s = c.args.self.now in
    let l : last_frames 0 s.forks.items < height_of s.frames = omega (arith, c.requires.base, c.requires.newest) in
    record { small = s.small; fit = fits_taken s.nodes s.frames c.pop.new.self s.forks.items s.top c.in-Some.frame c.in-Some.ensures l s.fit }

pub returns-clause-frames : goal.returns-clause-frames
returns-clause-frames c inputs =
    let s = c.args.self.now in
    frames_taken (envs_of inputs s.nodes) s.frames c.pop.new.self s.top c.in-Some.frame c.in-Some.ensures c.requires.newest

pub returns-clause-forks : goal.returns-clause-forks
returns-clause-forks c inputs =
    let s = c.args.self.now in
    let l : last_frames 0 s.forks.items < height_of s.frames = omega (arith, c.requires.base, c.requires.newest) in
    forks_after (envs_of inputs s.nodes) s.nodes s.frames c.pop.new.self s.forks.items s.top c.in-Some.frame c.in-Some.ensures l s.fit
