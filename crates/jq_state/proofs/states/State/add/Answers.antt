use Rattle.std.proofs.Common.{[], reverse, get_or, sym, ap, ◌∙◌}
use Rattle.jq_meaning.specs.Env.{outermost, bound}
use Rattle.jq_meaning.specs.Runs.{none}
use Rattle.jq_state.specs.Nodes.{binding_in, env_at}
use Rattle.jq_state.specs.Environments.{envs_of, count_of}
use Rattle.jq_state.specs.Chains.{continuations, height_of}
use Rattle.jq_state.proofs.Walks.{envs-length}
use Rattle.jq_state.proofs.Extending.{fits_added, same_after, last_added, frames_same, forks_same}
use Rattle.jq_state.proofs.states.State.add.Goals as goal

pub invariant_of-self : goal.invariant_of-self
invariant_of-self c =
    let s = c.args.self.now in
    record { small = s.small; fit = fits_added s.nodes c.push.new.self s.frames s.forks.items s.top c.push.ensures.first c.push.ensures.grows s.fit }

pub returns-clause-env : goal.returns-clause-env
returns-clause-env c inputs =
    let ns = c.args.self.now.nodes in
    let envs = envs_of inputs ns in
    let e = bound (binding_in envs c.args.binding) (env_at envs c.args.outer) in
    let p = c.in_ok-index.ensures.index ∙ sym (envs-length ns inputs) in
    last_added envs (envs_of inputs c.push.new.self) e (outermost none) c.in_ok-index.index p (c.in_ok-index.ensures.envs inputs)

pub returns-clause-others : goal.returns-clause-others
returns-clause-others c inputs =
    let ns = c.args.self.now.nodes in
    let envs = envs_of inputs ns in
    same_after (outermost none) (count_of ns) envs (envs_of inputs c.push.new.self) (bound (binding_in envs c.args.binding) (env_at envs c.args.outer)) (sym (envs-length ns inputs)) (c.in_ok-index.ensures.envs inputs)

pub returns-clause-frames : goal.returns-clause-frames
returns-clause-frames c inputs =
    let s = c.args.self.now in
    let envs = envs_of inputs s.nodes in
    let others = envs_of inputs c.push.new.self in
    let same = same_after (outermost none) (count_of s.nodes) envs others (bound (binding_in envs c.args.binding) (env_at envs c.args.outer)) (sym (envs-length s.nodes inputs)) (c.in_ok-index.ensures.envs inputs) in
    ap (λ ks. get_or ks s.top []) (frames_same envs others (count_of s.nodes) s.frames same s.fit.1)

pub returns-clause-forks : goal.returns-clause-forks
returns-clause-forks c inputs =
    let s = c.args.self.now in
    let envs = envs_of inputs s.nodes in
    let others = envs_of inputs c.push.new.self in
    let same = same_after (outermost none) (count_of s.nodes) envs others (bound (binding_in envs c.args.binding) (env_at envs c.args.outer)) (sym (envs-length s.nodes inputs)) (c.in_ok-index.ensures.envs inputs) in
    ap reverse (forks_same envs others (continuations envs s.frames) (continuations others s.frames) 0 _ s.frames.frames.items (height_of s.frames) (count_of s.nodes) s.forks.items same
    (λ i h. ap (λ ks. get_or ks i []) (frames_same envs others (count_of s.nodes) s.frames same s.fit.1)) s.fit.2)
