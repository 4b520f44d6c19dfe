use Rattle.std.proofs.Common.{refl}
use Rattle.jq_laws.proofs.filters.nothing_follows_empty.Goals as goal

pub returns : goal.returns
returns c = λ f. record { run = λ d e k x. refl }
