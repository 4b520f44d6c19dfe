use Rattle.std.proofs.Common.{vec_len}
use Rattle.jq_state.proofs.Continuing.{fits_popped, popped}
use Rattle.jq_state.proofs.frames.Frames.pop.Goals as goal

pub invariant_of-self : goal.invariant_of-self
invariant_of-self c =
    let h = fits_popped c.pop.result c.args.self.now.frames.items c.pop.new.self.items c.pop.ensures.items c.args.self.now.fit c.args.self.now.small in
    record { small = h.1; fit = h.0 }

pub returns : goal.returns
returns c =
    let before = c.args.self.now.frames in
    let after = c.pop.new.self in
    popped c.pop.result before.items after.items (vec_len before) (vec_len after) c.pop.ensures.items c.args.self.now.fit before.ok.0 after.ok.0 c.pop.ensures.cases
