use Rattle.jq_pages.proofs.Shifts.{target_earlier, target_later}
use Rattle.jq_pages.proofs.moving.target_of.Goals as goal
use Rattle.jq_pages.proofs.moving.target_of.Goals.{else-l-k-via-then-l-k+else-page-from, else-l-k-via-else-l-k}

pub returns-else-l-k-clause-target : goal.returns-else-l-k-clause-target
returns-else-l-k-clause-target g c =
    let ps = c.args.pages.now in
    elim c.else-l-k.branch [
      | else-l-k-via-then-l-k+else-page-from w ↦ target_later ps c.args.from.page c.args.from.at c.args.page c.args.at c.args.k c.args.l c.requires.from c.requires.room c.requires.spot w.if-l-k.true (c.requires.later w.if-l-k.true) w.if-page-from.false
      | else-l-k-via-else-l-k w ↦ target_earlier ps c.args.from.page c.args.from.at c.args.page c.args.at c.args.k c.args.l c.requires.from c.requires.room c.requires.spot w.if-l-k.false (c.requires.earlier w.if-l-k.false)
    ]
