use Rattle.std.proofs.Common.{◌≡◌, ◌+◌, ◌-◌, length, arith}
use Rattle.jq_pages.proofs.Reruns.{exit_last}
use Rattle.jq_pages.proofs.following.exit_after.Goals as goal

pub returns-else-count-eq0 : goal.returns-else-count-eq0
returns-else-count-eq0 g c =
    let n : length c.args.runs.now ≡ (length c.args.runs.now - 1) + 1 = omega arith in
    exit_last g.S.Steps.seen (g.S.Steps.seen c.args.entry.now) c.args.runs.now (length c.args.runs.now - 1) c.index-runs-count.result n
