use Rattle.std.proofs.Common.{arith}
use Rattle.std.proofs.lemmas.List.{length-map}
use Rattle.jq_state.specs.Nodes.{program_binding}
use Rattle.jq_state.specs.Environments.{envs_of}
use Rattle.jq_state.proofs.Trimming.{trimmed, fits_trimmed, forks_left, frames_left, needs_within}
use Rattle.jq_state.proofs.states.State.trim.Goals as goal

pub cut-requires : goal.cut-requires
cut-requires c =
    let s = c.args.self.now in
    let needs = needs_within s.nodes s.frames s.forks.items s.top s.fit in
    omega (arith, c.max-frames.ensures, c.base.ensures, needs.0, s.fit.0)

pub cut-requires-2-clause-program : goal.cut-requires-2-clause-program
cut-requires-2-clause-program c =
    let s = c.args.self.now in
    let needs = needs_within s.nodes s.frames s.forks.items s.top s.fit in
    omega (arith, c.max-count.ensures, c.base_envs-envs.ensures, needs.2, length-map s.nodes.program.now.items.items program_binding)

pub cut-requires-2-clause-within : goal.cut-requires-2-clause-within
cut-requires-2-clause-within c =
    let s = c.args.self.now in
    let needs = needs_within s.nodes s.frames s.forks.items s.top s.fit in
    omega (arith, c.max-count.ensures, c.mark.ensures, c.base_envs-envs.ensures, c.cut.ensures.mark, needs.1, s.fit.1)

pub invariant_of-self : goal.invariant_of-self
invariant_of-self c =
    let s = c.args.self.now in
    record {
      small = s.small;
      fit = fits_trimmed s.nodes c.cut-2.new.self s.frames c.cut.new.self s.forks.items s.top c.max-frames.result c.max-count.result
          (trimmed c.base.result c.mark.result c.base_envs-envs.result c.cut.ensures.left c.cut.ensures.count c.max-frames.ensures c.base.ensures c.cut-2.ensures.first c.cut-2.ensures.count c.max-count.ensures c.mark.ensures c.base_envs-envs.ensures)
          s.fit;
    }

pub returns-clause-frames : goal.returns-clause-frames
returns-clause-frames c inputs =
    let s = c.args.self.now in
    let all = envs_of inputs s.nodes in
    frames_left all (envs_of inputs c.cut-2.new.self) s.nodes c.cut-2.new.self s.frames c.cut.new.self s.forks.items s.top c.max-frames.result c.max-count.result
    (trimmed c.base.result c.mark.result c.base_envs-envs.result c.cut.ensures.left c.cut.ensures.count c.max-frames.ensures c.base.ensures c.cut-2.ensures.first c.cut-2.ensures.count c.max-count.ensures c.mark.ensures c.base_envs-envs.ensures)
    (c.cut-2.ensures.envs inputs) (c.cut.ensures.frames all)

pub returns-clause-forks : goal.returns-clause-forks
returns-clause-forks c inputs =
    let s = c.args.self.now in
    let all = envs_of inputs s.nodes in
    forks_left all (envs_of inputs c.cut-2.new.self) s.nodes c.cut-2.new.self s.frames c.cut.new.self s.forks.items s.top c.max-frames.result c.max-count.result
    (trimmed c.base.result c.mark.result c.base_envs-envs.result c.cut.ensures.left c.cut.ensures.count c.max-frames.ensures c.base.ensures c.cut-2.ensures.first c.cut-2.ensures.count c.max-count.ensures c.mark.ensures c.base_envs-envs.ensures)
    (c.cut-2.ensures.envs inputs) (c.cut.ensures.frames all) s.fit
