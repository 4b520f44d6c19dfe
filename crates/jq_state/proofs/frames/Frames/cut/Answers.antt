use Rattle.std.proofs.Common.{◌≤◌, ◌∷◌, [], ap, subst, sym, ◌∙◌, arith}
use Rattle.std.proofs.lemmas.List.{length-take-le}
use Rattle.jq_state.specs.Builds.{builds}
use Rattle.jq_state.specs.Links.{last_mark}
use Rattle.jq_state.specs.Chains.{linked, mark_of}
use Rattle.jq_state.proofs.Continuing.{frames_fit-take, frames_cut, last_mark-take}
use Rattle.jq_state.proofs.frames.Frames.cut.Goals as goal

pub invariant_of-self : goal.invariant_of-self
invariant_of-self c =
    let fs = c.args.self.now.frames.items in
    let l = length-take-le c.args.count fs c.requires in
    rw c.truncate.ensures.items (record { small = omega (arith, l, c.requires, c.args.self.now.small); fit = frames_fit-take 0 0 fs c.args.count c.args.self.now.fit })

pub returns-clause-mark : goal.returns-clause-mark
returns-clause-mark c =
    subst (λ gs. last_mark 0 gs ≤ mark_of c.args.self.now) (sym c.truncate.ensures.items) (last_mark-take 0 0 c.args.self.now.frames.items c.args.count c.args.self.now.fit)

pub returns-clause-frames : goal.returns-clause-frames
returns-clause-frames c envs = ap (builds (linked envs) ([] ∷ [])) c.truncate.ensures.items ∙ frames_cut envs c.args.self.now.frames.items c.args.count c.requires
