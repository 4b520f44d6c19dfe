use Rattle.std.proofs.Common.{refl}
use Rattle.jq_meaning.proofs.shared.machine.RunLaws.{then_run-assoc, then_run-none}
use Rattle.jq_meaning.specs.Meaning.{meaning}
use Rattle.jq_laws.proofs.filters.commas_group_freely.Goals as goal

pub returns : goal.returns
returns c = record {
  groups = λ f g h. record { run = λ d e k x. then_run-assoc (meaning d f e k x) (meaning d g e k x) (meaning d h e k x) };
  before = λ f. record { run = λ d e k x. refl };
  after = λ f. record { run = λ d e k x. then_run-none (meaning d f e k x) };
}
