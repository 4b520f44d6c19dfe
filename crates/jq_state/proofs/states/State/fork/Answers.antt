use Rattle.std.proofs.Common.{map, reverse, refl, ap, ◌∙◌, arith, is_ok}
use Rattle.jq_state.specs.Environments.{envs_of}
use Rattle.jq_state.specs.Chains.{continuations}
use Rattle.jq_state.specs.Forks.{fork_in}
use Rattle.jq_state.specs.declared.forks.Fork.{Fork}
use Rattle.jq_state.proofs.Chains.{length_after}
use Rattle.jq_state.proofs.Extending.{fits_forked, newest_first}
use Rattle.jq_state.proofs.states.State.fork.Goals as goal

pub invariant_of-self : goal.invariant_of-self
invariant_of-self c =
    let s = c.args.self.now in
    let f : Fork = record { choice = c.args.choice; cell = c.args.cell; scope = c.args.scope; next = s.top; frames = c.count.result; envs = c.count-2.result } in
    let l = length_after (is_ok c.push.result) s.forks.items c.push.new.self.items f c.push.ensures.items in
    record { small = omega (arith, l, s.forks.ok.0); fit = fits_forked (is_ok c.push.result) s.nodes s.frames s.forks.items c.push.new.self.items s.top f c.push.ensures.items refl c.count.ensures c.count-2.ensures c.requires s.fit }

pub returns-clause-forks : goal.returns-clause-forks
returns-clause-forks c inputs =
    let s = c.args.self.now in
    let envs = envs_of inputs s.nodes in
    let read = fork_in envs (continuations envs s.frames) in
    let f : Fork = record { choice = c.args.choice; cell = c.args.cell; scope = c.args.scope; next = s.top; frames = c.count.result; envs = c.count-2.result } in
    ap (λ fs. reverse (map read fs)) c.in_ok-push.ensures.items ∙ newest_first read s.forks.items f
