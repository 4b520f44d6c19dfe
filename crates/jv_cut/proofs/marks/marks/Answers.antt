use Rattle.std.proofs.lemmas.Simd.{get_or-chunk}
use Rattle.jv_cut.proofs.Walks.{marked_by}
use Rattle.jv_cut.proofs.marks.marks.Goals as goal

pub returns : goal.returns
returns c =
    marked_by _ c.args.bytes.now c.args.at (λ k h. get_or-chunk c.args.at 64 c.args.bytes.now k 0 h) _ _ _ _ _ _ c.equal_to.ensures c.equal_to-2.ensures c.equal_to-3.ensures c.equal_to-4.ensures c.equal_to-5.ensures c.equal_to-6.ensures
