use Rattle.std.proofs.Common.{◌≡◌, ◌+◌, ◌≤◌, length, take, arith}
use Rattle.jq_pages.specs.private.Reruns.{count_in}
use Rattle.jq_pages.proofs.Reruns.{count_more, count_part}
use Rattle.jq_pages.proofs.placing.count_inputs.Goals as goal

pub overflow_add-count : goal.overflow_add-count
overflow_add-count g c =
    let ps = c.args.pages.now in
    let i = c.loop-page.page-index in
    let m : count_in (take (i + 1) ps) ≡ count_in (take i ps) + length c.page-item.result.inputs.items = count_more ps i c.page-item.result c.loop-page-test.true c.page-item.is in
    let k : count_in (take (i + 1) ps) ≤ count_in ps = count_part ps (i + 1) in
    omega (arith, c.len-count.ensures, c.loop-page.invariant, c.requires)

pub loop-page-preserved : goal.loop-page-preserved
loop-page-preserved g c =
    let ps = c.args.pages.now in
    let i = c.loop-page.page-index in
    let m : count_in (take (i + 1) ps) ≡ count_in (take i ps) + length c.page-item.result.inputs.items = count_more ps i c.page-item.result c.loop-page-test.true c.page-item.is in
    omega (arith, c.len-count.ensures, c.loop-page.invariant)
