use Rattle.std.proofs.Math.Logic.{∥∥₁_elim}
use Rattle.jq_pages.proofs.Public.{tail_of}
use Rattle.jq_pages.proofs.Sets.{sets}
use Rattle.jq_pages.proofs.pages.Pages.tail.Goals as goal

pub returns : goal.returns
returns g c =
    let s = c.args.self.now.kept in
    ∥∥₁_elim s.begun (hlevel sets) (λ b. ∥∥₁_elim s.held (hlevel sets) (λ x. tail_of g.S.Steps.seen (g.S.Steps.fold s.steps) s.head s.tail s.first s.pages.items b x))
