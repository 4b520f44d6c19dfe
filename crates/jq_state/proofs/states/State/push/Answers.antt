use Rattle.std.proofs.Common.{◌≤◌, ◌+◌, ◌∷◌, [], reverse, refl, sym, ap, ◌∙◌, arith}
use Rattle.jq_state.specs.Environments.{envs_of, count_of}
use Rattle.jq_state.specs.Links.{frame_in}
use Rattle.jq_state.specs.Chains.{continuations, frames_at, height_of}
use Rattle.jq_state.specs.declared.frames.Frame.{Frame}
use Rattle.jq_state.proofs.Extending.{fits_pushed, same_after, last_added, continuations-length, forks_same}
use Rattle.jq_state.proofs.states.State.push.Goals as goal

pub invariant_of-self-2 : goal.invariant_of-self-2
invariant_of-self-2 c =
    let s = c.args.self.now in
    let f : Frame = record { step = c.args.step; scope = c.args.scope; next = s.top; mark = c.count.result } in
    let t : c.in_ok-index.index ≤ height_of s.frames + 1 = omega (arith, c.in_ok-index.ensures.index) in
    record { small = s.small; fit = fits_pushed s.nodes s.frames c.push.new.self s.forks.items s.top c.in_ok-index.index f c.in_ok-index.ensures.pushed c.count.ensures t s.fit }

pub returns-clause-frames : goal.returns-clause-frames
returns-clause-frames c inputs =
    let s = c.args.self.now in
    let envs = envs_of inputs s.nodes in
    let f : Frame = record { step = c.args.step; scope = c.args.scope; next = s.top; mark = c.count.result } in
    let p = c.in_ok-index.ensures.index ∙ sym (continuations-length envs s.frames) in
    last_added (continuations envs s.frames) (continuations envs c.push.new.self) (frame_in envs f ∷ frames_at envs s.frames s.top) [] c.in_ok-index.index p (c.in_ok-index.ensures.frames envs)

pub returns-clause-forks : goal.returns-clause-forks
returns-clause-forks c inputs =
    let s = c.args.self.now in
    let envs = envs_of inputs s.nodes in
    let f : Frame = record { step = c.args.step; scope = c.args.scope; next = s.top; mark = c.count.result } in
    let p = sym (continuations-length envs s.frames) in
    ap reverse (forks_same envs envs (continuations envs s.frames) (continuations envs c.push.new.self) 0 _ s.frames.frames.items (height_of s.frames) (count_of s.nodes) s.forks.items (λ i h. refl)
    (same_after [] (height_of s.frames + 1) (continuations envs s.frames) (continuations envs c.push.new.self) (frame_in envs f ∷ frames_at envs s.frames s.top) p (c.in_ok-index.ensures.frames envs)) s.fit.2)
