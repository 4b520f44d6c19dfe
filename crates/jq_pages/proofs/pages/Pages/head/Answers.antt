use Rattle.std.proofs.Math.Logic.{∥∥₁_elim}
use Rattle.jq_pages.proofs.Sets.{sets}
use Rattle.jq_pages.proofs.pages.Pages.head.Goals as goal

pub returns : goal.returns
returns g c = ∥∥₁_elim c.args.self.now.kept.begun (hlevel sets) (λ b. b.head)
