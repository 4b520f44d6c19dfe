use Rattle.std.proofs.Common.{ℕ, eqb, false, cond, map, ap, ◌∙◌, arith, w8}
use Rattle.std.proofs.lemmas.List.{get_or-map}
use Rattle.std.proofs.lemmas.Simd.{bitmask_splat, bit_mask_l}
use Rattle.std.specs.Int.{bit_at}
use Rattle.jv_cut.proofs.marks.equal_to.Goals as goal

pub returns : goal.returns
returns c k h =
    let p = λ (x : ℕ). eqb x c.args.byte in
    ap (λ n. bit_at n k) (bitmask_splat w8 eqb c.args.block 64 c.args.byte c.fits-block.0 (omega arith)) ∙ bit_mask_l (map p c.args.block) k ∙ ap (λ b. cond b 1 0) (get_or-map p c.args.block k 0 false (omega (arith, c.fits-block.0)))
