use Rattle.std.proofs.Common.{◌∙◌}
use Rattle.std.proofs.Math.Logic.{∥∥₁_elim}
use Rattle.jq_pages.specs.private.Reruns.{inputs_in, pieces_in}
use Rattle.jq_pages.proofs.Public.{joined_pages, pieces_of}
use Rattle.jq_pages.proofs.Sets.{sets}
use Rattle.jq_pages.proofs.pages.Pages.page_count.Goals as goal

pub returns-clause-joined : goal.returns-clause-joined
returns-clause-joined g c =
    let s = c.args.self.now.kept in
    ∥∥₁_elim s.begun (hlevel sets) (λ b. ∥∥₁_elim s.held (hlevel sets) (λ x.
    joined_pages pieces_in s.pages.items ∙ pieces_of g.S.Steps.seen (g.S.Steps.fold s.steps) s.head s.tail s.first s.pages.items b x))

pub returns-clause-inputs_joined : goal.returns-clause-inputs_joined
returns-clause-inputs_joined g c = joined_pages inputs_in c.args.self.now.kept.pages.items
