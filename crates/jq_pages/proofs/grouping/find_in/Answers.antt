use Rattle.std.proofs.Common.{◌≡◌, ◌+◌, length, take, arith}
use Rattle.jq_pages.specs.private.Reruns.{count_in}
use Rattle.jq_pages.proofs.Reruns.{count_more}
use Rattle.jq_pages.proofs.grouping.find_in.Goals as goal

pub loop-j-preserved : goal.loop-j-preserved
loop-j-preserved g c =
    let ps = c.args.pages.now in
    let i = c.loop-j.j in
    let m : count_in (take (i + 1) ps) ≡ count_in (take i ps) + length c.index-pages-j.result.inputs.items = count_more ps i c.index-pages-j.result c.loop-j-test.true c.index-pages-j.is in
    omega (arith, c.len-count.ensures, c.loop-j.invariant, c.if-left-count.false)
