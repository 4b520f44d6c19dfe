use Rattle.std.proofs.Common.{◌≡◌, ◌≤◌, ◌+◌, ◌∷◌, [], length, length-append, take, ap, ◌∙◌, arith}
use Rattle.std.proofs.lemmas.List.{length-map}
use Rattle.jq_state.specs.Nodes.{program_binding}
use Rattle.jq_state.specs.Environments.{envs_of, first_count}
use Rattle.jq_state.specs.Links.{last_mark}
use Rattle.jq_state.specs.Chains.{mark_of}
use Rattle.jq_state.proofs.Extending.{last_of, fits_back, gone_back}
use Rattle.jq_state.proofs.states.State.go_back.Goals as goal

pub cut-requires : goal.cut-requires
cut-requires c =
    let s = c.args.self.now in
    let last = last_of s.nodes s.frames s.forks.items c.pop.new.self.items s.top c.in-Some.fork c.in-Some.ensures.items s.fit in
    last.in_frames

pub cut-requires-2-clause-program : goal.cut-requires-2-clause-program
cut-requires-2-clause-program c =
    let s = c.args.self.now in
    let last = last_of s.nodes s.frames s.forks.items c.pop.new.self.items s.top c.in-Some.fork c.in-Some.ensures.items s.fit in
    omega (arith, last.low, length-map s.nodes.program.now.items.items program_binding)

pub cut-requires-2-clause-within : goal.cut-requires-2-clause-within
cut-requires-2-clause-within c =
    let s = c.args.self.now in
    let last = last_of s.nodes s.frames s.forks.items c.pop.new.self.items s.top c.in-Some.fork c.in-Some.ensures.items s.fit in
    last.in_envs

pub invariant_of-self-2 : goal.invariant_of-self-2
invariant_of-self-2 c =
    let s = c.args.self.now in
    let last = last_of s.nodes s.frames s.forks.items c.pop.new.self.items s.top c.in-Some.fork c.in-Some.ensures.items s.fit in
    let l : length s.forks.items ≡ length c.pop.new.self.items + 1 = ap length c.in-Some.ensures.items ∙ length-append c.pop.new.self.items (c.in-Some.fork ∷ []) in
    record { small = omega (arith, l, s.small); fit = fits_back s.nodes c.cut-2.new.self s.frames c.cut.new.self c.pop.new.self.items c.in-Some.fork last c.cut.ensures.left c.cut.ensures.count c.cut-2.ensures.first c.cut-2.ensures.count }

pub returns-clause-scope : goal.returns-clause-scope
returns-clause-scope c =
    let s = c.args.self.now in
    let last = last_of s.nodes s.frames s.forks.items c.pop.new.self.items s.top c.in-Some.fork c.in-Some.ensures.items s.fit in
    omega (arith, last.fits.1, c.cut-2.ensures.count)

pub returns-clause-forks : goal.returns-clause-forks
returns-clause-forks c inputs =
    let s = c.args.self.now in
    let f = c.in-Some.fork in
    let last = last_of s.nodes s.frames s.forks.items c.pop.new.self.items s.top f c.in-Some.ensures.items s.fit in
    let left : mark_of c.cut.new.self ≡ last_mark 0 (take f.frames s.frames.frames.items) = ap (last_mark 0) c.cut.ensures.left in
    let mark : mark_of c.cut.new.self ≤ f.envs = omega (arith, left, last.fits.2) in
    let envs = envs_of inputs s.nodes in
    gone_back envs (envs_of inputs c.cut-2.new.self) s.frames c.cut.new.self (first_count s.nodes) s.forks.items c.pop.new.self.items f c.in-Some.ensures.items (c.cut-2.ensures.envs inputs) (c.cut.ensures.frames envs) mark last.fits last.others
