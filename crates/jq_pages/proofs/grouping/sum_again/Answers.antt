use Rattle.std.proofs.Common.{◌≡◌, ℕ, ◌+◌, ◌/◌, ◌<◌, ◌∙◌, min, subst, sym, arith}
use Rattle.std.proofs.lemmas.List.{length-set}
use Rattle.jq_pages.specs.private.Groups.{IsGroup}
use Rattle.jq_pages.proofs.Groups.{index_set}
use Rattle.jq_pages.proofs.grouping.sum_again.Goals as goal

there : (g e b n m : ℕ) → g < e → e ≡ min b n → n ≡ m → g < m
there g e b n m l a d = omega arith

pub loop-g-preserved : goal.loop-g-preserved
loop-g-preserved g c =
    let gs = c.loop-g.groups.items in
    let i = c.loop-g.g in
    record {
      others = index_set gs c.args.pages.now i (c.args.last / 128 + 1) c.group_of.result c.loop-g.invariant.others (there _ _ _ _ _ c.loop-g-test.true c.smaller-end.ensures (c.len.ensures ∙ c.args.groups.now.ok.0 ∙ sym c.loop-g.invariant.count)) (subst (λ z. IsGroup c.group_of.result z) c.pages_of.ensures c.group_of.ensures);
      count = length-set gs i c.group_of.result ∙ c.loop-g.invariant.count;
    }
