use Rattle.std.proofs.Common.{take, ap, ◌∙◌}
use Rattle.jq_pages.specs.private.Reruns.{kept_of}
use Rattle.jq_pages.proofs.Applied.{opened_by}
use Rattle.jq_pages.proofs.rooms.open_page.Goals as goal

pub returns-clause-pages : goal.returns-clause-pages
returns-clause-pages g c =
    opened_by g.S.Steps.seen (g.S.Steps.seen c.args.first.now) c.args.pages.now.items c.insert.new.self.items c.args.j _ c.in_ok-insert.ensures.items c.new.ensures.items c.new-2.ensures.items
    (c.in_ok-exit.ensures ∙ c.kept_after.ensures ∙ ap (λ z. kept_of g.S.Steps.seen (g.S.Steps.seen c.args.first.now) (take c.args.j z)) c.deref.ensures.value)
