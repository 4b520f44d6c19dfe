use Rattle.std.proofs.Common.{ap, ◌∙◌, arith}
use Rattle.jq_state.specs.Environments.{envs_of}
use Rattle.jq_state.specs.Chains.{continuations}
use Rattle.jq_state.proofs.Cells.{points, points_cut, fits_cut, cut_small}
use Rattle.jq_state.proofs.states.State.cut_forks.Goals as goal

pub invariant_of-self : goal.invariant_of-self
invariant_of-self c =
    let s = c.args.self.now in
    let l = cut_small s.forks.items c.args.height in
    rw c.truncate.ensures.items (record { small = omega (arith, l, s.small); fit = fits_cut s.nodes s.frames s.forks.items s.top c.args.height s.fit })

pub returns-clause-forks : goal.returns-clause-forks
returns-clause-forks c inputs =
    let s = c.args.self.now in
    let envs = envs_of inputs s.nodes in
    let ks = continuations envs s.frames in
    ap (points envs ks) c.truncate.ensures.items ∙ points_cut envs ks s.forks.items c.args.height
