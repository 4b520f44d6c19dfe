use Rattle.std.proofs.Common.{◌≡◌, ℕ, ◌+◌, ◌-◌, ◌*◌, ◌≤◌, take, arith}
use Rattle.jq_pages.specs.private.Reruns.{count_in}
use Rattle.jq_pages.proofs.Groups.{count_group}
use Rattle.jq_pages.proofs.grouping.find.Goals as goal

moved : (a b n left place : ℕ) → b ≡ a + n → n ≤ left → a + left ≡ place → b + (left - n) ≡ place
moved a b n left place e l f = omega arith

pub loop-g-preserved : goal.loop-g-preserved
loop-g-preserved g c =
    let i = c.loop-g.g in
    let ps = c.args.pages.now in
    moved (count_in (take (128 * i) ps)) (count_in (take (128 * (i + 1)) ps)) _ _ _ (count_group _ i ps (c.requires.index.groups i c.loop-g-test.true _)) c.if-left-group.false c.loop-g.invariant
