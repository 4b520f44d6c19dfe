use Rattle.std.proofs.Common.{◌≤◌, List, length, get_or, sym, subst}
use Rattle.std.proofs.Math.Logic.{∥∥₁_elim}
use Rattle.std.proofs.Props.{props}
use Rattle.jq_pages.proofs.Divided.{page_pieces}
use Rattle.jq_pages.proofs.dividing.split_page.Goals as goal

pub divide-requires-clause-full : goal.divide-requires-clause-full
divide-requires-clause-full g c d =
    ∥∥₁_elim c.requires.holds (hlevel props) (λ h.
    subst (λ (z : List _). 32 ≤ length (get_or z c.args.j d).pieces.items.items) (sym c.reserve.ensures.items)
    (subst (λ n. 32 ≤ n) (sym (page_pieces g.S.Steps.seen (g.S.Steps.fold c.args.steps.now) (g.S.Steps.seen c.args.first.now) c.args.pages.now.items c.args.j d c.requires.page h)) (c.requires.long d)))
