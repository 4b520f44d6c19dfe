use Rattle.std.proofs.Common.{◌≡◌, ◌+◌, ◌-◌, length, arith}
use Rattle.jq_pages.proofs.Reruns.{kept_last}
use Rattle.jq_pages.proofs.following.kept_after.Goals as goal

pub returns-else-count-eq0 : goal.returns-else-count-eq0
returns-else-count-eq0 g c =
    let n : length c.args.pages.now ≡ (length c.args.pages.now - 1) + 1 = omega arith in
    kept_last g.S.Steps.seen (g.S.Steps.seen c.args.entry.now) c.args.pages.now (length c.args.pages.now - 1) c.index-pages-count.result n
