use Rattle.jq_single.proofs.Binding.{gathers_fail}
use Rattle.jq_single.proofs.gathering.ended.Goals as goal

pub returns-in-Raised : goal.returns-in-Raised
returns-in-Raised c = λ inputs level later r xs e q. gathers_fail inputs level later xs _ r (rw c.in-Raised.is at e) q
