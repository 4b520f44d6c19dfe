use Rattle.std.proofs.Common.{◌<◌, ◌≤◌, ◌∙◌, List, ap, length, subst, sym}
use Rattle.std.proofs.Math.Logic.{∥∥₁_elim}
use Rattle.std.proofs.Props.{props}
use Rattle.jq_pages.specs.declared.pieces.Piece.{Piece}
use Rattle.jq_pages.proofs.Edits.{map_length}
use Rattle.jq_pages.proofs.Public.{page_size}
use Rattle.jq_pages.proofs.pages.Pages.page.Goals as goal

pub returns-clause-size : goal.returns-clause-size
returns-clause-size g c =
    let s = c.args.self.now.kept in
    let l = subst (λ n. c.args.j < n) (map_length _ s.pages.items) c.requires in
    ∥∥₁_elim s.held (hlevel props) (λ h. ∥∥₁_elim s.filled (hlevel props) (λ f.
    subst (λ n. (1 ≤ n) × (n ≤ 64)) (sym (ap (λ (z : List Piece). length z) (c.deref.ensures.value ∙ ap (λ z. z.pieces.items.items) c.index.ensures)))
    (page_size g.S.Steps.seen (g.S.Steps.fold s.steps) (g.S.Steps.seen s.first) s.pages.items c.args.j c.index.result.now l h.holds h.sized f)))
