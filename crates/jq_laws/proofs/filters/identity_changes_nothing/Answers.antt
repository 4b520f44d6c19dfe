use Rattle.jq_meaning.proofs.shared.machine.RunLaws.{bind-one, bind-one_right}
use Rattle.jq_meaning.specs.Meaning.{meaning}
use Rattle.jq_laws.proofs.filters.identity_changes_nothing.Goals as goal

pub returns : goal.returns
returns c = record {
  before = λ f. record { run = λ d e k x. bind-one x (meaning d f e k) };
  after = λ f. record { run = λ d e k x. bind-one_right (meaning d f e k x) };
}
